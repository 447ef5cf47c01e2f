-- What is proved of a keep sheet: its lines are the whole of it, it keeps what some line says, and neither their order
-- nor how often one stands there matters.
-- Assumes nothing.
use Rattle.std.specs.Prelude.{◌≡◌, ◌↔◌, ℕ, ◌≤◌, true, false, length, replicate}
use mathlib.Core.List.{List, [], ◌∷◌, ◌++◌, Memᴰ}
use Rattle.fields.specs.Checks.{Passes, Fails}
use Rattle.fields.specs.Bytes.{Bytes, join}
use Rattle.sheet.specs.Sheet.{kind, lowest, highest, user_id, record_id, lines, sheet_verdict}
use Rattle.sheet.specs.Keeping.{keeps_class, keeps_place, keeps_point, keeps_record}
use Rattle.publicpart.specs.Public.{public_of}
use Rattle.publicpart.specs.Release.{release}

-- ---- lines

-- a line of kind 1
abbrev pub line : Bytes
line = 0x4B ∷ 0x53 ∷ 0x01 ∷ 0x02 ∷ 0x02 ∷ []

pub record SheetLines : Type 0 where
  -- a sheet that passes is its lines, back to back
  pub whole : (s : Bytes) → sheet_verdict s ≡ Passes → join (lines s) ≡ s
  -- no sheet has more than 64
  pub at_most_64 : (s : Bytes) → length (lines s) ≤ 64
  -- 64 lines pass
  pub sixty_four : sheet_verdict (join (replicate 64 line)) ≡ Passes
  -- and one byte more begins a 65th
  pub sixty_five : sheet_verdict (join (replicate 64 line) ++ 0x4B ∷ []) ≡ Fails 24

-- ---- what is kept

-- a line of which P holds
pub record SomeLine (ls : List Bytes) (P : Bytes → Type 0) : Type 0 where
  pub line : Bytes
  -- it is one of them
  pub among : Memᴰ line ls
  -- and P holds of it
  pub so : P line

pub record KeptByLines : Type 0 where
  -- a class is kept exactly if some kind 1 line of the sheet contains it
  pub class : (sheet : Bytes) (c : ℕ)
      → (keeps_class sheet c ≡ true) ↔ SomeLine (lines sheet) (λ l. (kind l ≡ 1) × (lowest l ≤ c) × (c ≤ highest l))
  -- a record is kept exactly if some kind 2 line of the sheet has its cut user ID and its ID
  pub entry : (sheet user : Bytes) (id : ℕ)
      → (keeps_record sheet user id ≡ true)
      ↔ SomeLine (lines sheet) (λ l. (kind l ≡ 2) × (user_id l ≡ user) × (record_id l ≡ id))
  -- the empty sheet is good and keeps nothing
  pub empty : (sheet_verdict [] ≡ Passes)
      × ((c : ℕ) → keeps_class [] c ≡ false)
      × ((user : Bytes) (id : ℕ) → keeps_record [] user id ≡ false)

-- ---- in whatever order

-- the same lines, in any order and any number of times
abbrev pub SameLines : Bytes → Bytes → Type 0
SameLines s t = (l : Bytes) → Memᴰ l (lines s) ↔ Memᴰ l (lines t)

-- two sheets keep the same classes, records, places and points
pub record KeepAlike (s t : Bytes) : Type 0 where
  pub class : (c : ℕ) → keeps_class s c ≡ keeps_class t c
  pub entry : (user : Bytes) (id : ℕ) → keeps_record s user id ≡ keeps_record t user id
  pub place : (p : Bytes) → keeps_place s p ≡ keeps_place t p
  pub point : (f : ℕ) (p : Bytes) → keeps_point s f p ≡ keeps_point t f p

pub record AnyOrder : Type 0 where
  -- what is kept depends on the set of lines
  pub keeps : (s t : Bytes) → SameLines s t → KeepAlike s t
  -- and so does the public part of every file
  pub public_part : (s t f : Bytes) → SameLines s t → public_of s f ≡ public_of t f
  -- and what a release writes and returns, where both sheets pass
  pub released : (s t f a : Bytes) → SameLines s t → sheet_verdict s ≡ Passes → sheet_verdict t ≡ Passes
      → release s f a ≡ release t f a
