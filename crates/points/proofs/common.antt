mod BitsLaws
pub mod PackedLaws
pub mod RoomLaws
