-- The samples P1 to P10 hold, by computing with the definitions.
-- Assumes nothing.
use mathlib.Core.Path.{refl}
use lib.Ieee.{to_bits, of_bits, add, mul, of_int, le}
use Rattle.fields.specs.Lists.{kept, cons_if, any_of, total}
use Rattle.fields.specs.Bytes.{part, num, bytes_of, same, join, pieces, numbers_bytes}
use Rattle.fields.specs.Text.{cut, padded}
use Rattle.fields.specs.Checks.{fails, fail_if, first_failing, then, number_of}
use Rattle.points.specs.Formats.{format_size, time_place, colour_place}
use Rattle.points.specs.Raw.{bits, bit, class_in, synthetic_in, key_point_in, withheld_in, class_byte, class_of, synthetic_of, key_point_of, withheld_of, return_of, stored}
use Rattle.points.specs.Points.{number_in, point_of, shape, decode_checks, fields_if, decoded}
use Rattle.lasfile.specs.Records.{payload_length, record_of, size_of, places, walk, walk_end, record_bytes, written_length, records_bytes}
use Rattle.scaling.specs.Scaling.{coordinate_of, coordinate_bits, double_at, scaling_in, scaling_of, within, good_scale, good_offset, good_scaling, bounds_of}
use Rattle.lasfile.specs.HeaderFields.{header_size, point_offset, record_count, format, record_length, point_count}
use Rattle.lasfile.specs.FileChecks.{records_end, file_verdict}
use Rattle.sheet.specs.Sheet.{kind, line_length, lowest, highest, user_id, record_id, edge, low, high, on_every_axis, first_line, after_line, lines_from, lines, box_in_order, in_order, line_checks, lines_verdict, sheet_verdict}
use Rattle.sheet.specs.Keeping.{contains_class, in_range, is_box, in_box, contains_point, names_record, keeps_class, has_box, keeps_place, keeps_point, keeps_record}
use Rattle.publicpart.specs.Bounds.{up_from, bins, largest, smallest, extremes_of, bound_numbers, bounds}
use Rattle.publicpart.specs.Public.{carried_of, contents, restrict, public_of}
use Rattle.publicpart.specs.Render.{new_offset, head_of, render}
use Rattle.publicpart.specs.Release.{refuse_or, short_or, accepted, room_or, release}
use Rattle.capi.specs.Answers.{released_numbers}
use Rattle.theorems.specs.Samples.{fields_of, four_numbers, samples, SamplesHold}

-- where this is unfolded, every definition of the release is
unfoldable pub computed : Unit {0}
unfolding kept cons_if any_of total part num bytes_of same join pieces cut padded fails fail_if first_failing then number_of format_size time_place colour_place class_byte class_in synthetic_in key_point_in withheld_in class_of synthetic_of key_point_of withheld_of bits bit number_in point_of shape decode_checks fields_if decoded payload_length record_of size_of places walk walk_end record_bytes written_length records_bytes double_at scaling_in scaling_of within good_scale good_offset good_scaling coordinate_of coordinate_bits bounds_of header_size point_offset record_count format record_length point_count records_end file_verdict kind line_length lowest highest user_id record_id first_line after_line lines_from lines edge low high on_every_axis box_in_order in_order line_checks lines_verdict sheet_verdict contains_class names_record keeps_class in_range is_box in_box contains_point has_box keeps_place keeps_point keeps_record numbers_bytes up_from return_of bins stored largest smallest extremes_of bound_numbers bounds carried_of contents restrict public_of new_offset head_of render released_numbers refuse_or short_or accepted room_or release to_bits of_bits add mul of_int le
computed = tt

pub samples_hold : SamplesHold
unfolding samples fields_of four_numbers computed
samples_hold = (refl, (refl, (refl, (refl, (refl, (refl, (refl, (refl, (refl, (refl, (refl, (refl, (refl, (refl, (refl, (refl, tt))))))))))))))))
