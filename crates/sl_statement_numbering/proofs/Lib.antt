-- ## What the numbers at a place are within
pub mod RoomLaws
-- ## Walks over lists
pub mod WalkLaws
pub mod ListWalks
-- ## Parts of statements
pub mod AssignmentLaws
pub mod ContainerLaws
pub mod DeclarationLaws
