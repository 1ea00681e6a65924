-- Objects by their numbers, and what an id names.
pub mod StoreLaws
pub mod IdentityLaw
pub mod NamedLaw
pub mod EndsLaw
pub mod HandedIds
