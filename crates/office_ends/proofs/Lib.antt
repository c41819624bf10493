mod RoomLaws
pub mod EndingLaws
