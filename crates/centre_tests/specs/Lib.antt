pub mod UsersFirst
pub mod UsersFirstLawful
