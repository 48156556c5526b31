-- What crates above cite of ids and their places.
pub use Rattle.map_tables.proofs.IdLemmas.{int_eq-refl, same_number, place_in-none, place_in-some, place_in-at, place_in-own}
