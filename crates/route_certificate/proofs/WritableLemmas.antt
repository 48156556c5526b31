-- What certifying shows may be written as a text.
use Rattle.std.proofs.Common.{◌≡◌, ℕ, ℤ, pos, zero, suc, ◌<◌, ◌≤ℤ◌, Bool, true, false, ◌&&◌, nat_lt, int_le, List, [], ◌∷◌, ◌++◌, length, map, get_or, Some, Result, Ok, Err, IfOk, IsTrue, refl, sym, subst, arith}
use Rattle.std.specs.List.{AllByRecursion, slice_get}
use Rattle.std.proofs.lemmas.Bool.Decides.{nat_tests}
use Rattle.std.proofs.lemmas.Int.{fits_signed_from_abs, ints}
use mir.Syntax.{w64}
use Rattle.certificate_text.specs.Lines.{IsBuffer, IsEntry, IsLink}
use Rattle.certificate_text.specs.Texts.{AreLegs, IsLeg, leg_of}
use Rattle.certificate_text.specs.declared.certificate.Entry.{Entry}
use Rattle.certificate_text.specs.declared.certificate.LowerBound.{LowerBound}
use Rattle.certificate_text.specs.declared.certificate.Proof.{Proof}
use Rattle.cost_model.specs.Prices.{IsPrices, Prices}
use Rattle.cost_model.specs.Rides.{Terrain}
use Rattle.overpass_graph.specs.Maps.{MapValue}
use Rattle.space_search.specs.declared.outcome.Outcome.{Outcome}
use Rattle.space_search.specs.declared.outcome.Outcome.TheVariants.{Found, NoWay, Budget}
use Rattle.bike_space.specs.Kept.{task_of}
use Rattle.bike_space.specs.Lawful.{IsTask}
use Rattle.bike_space.specs.Tasks.{is_carried}
use Rattle.bike_space.specs.declared.rested.Rested.{Rested}
use Rattle.route_certificate.specs.Certified.{IsProof, IsShown, IsWritable}
use Rattle.route_certificate.specs.Legs.{IsInBounds}
use Rattle.route_certificate.proofs.LegLemmas.{cost-fits}

-- ---- Lists

-- what is so of the item at each place is so of all
each-all : {A : Type 0} (P : A → Type 0) (xs : List A) → ((place : ℕ) (x : A) → slice_get xs place ≡ Some x → P x) →
    AllByRecursion P xs
each-all P [] each = tt
each-all P (x ∷ xs) each = (each zero x refl, each-all P xs (λ place y at. each (suc place) y at))

-- the same of numbers that are read at each place
read-all : (P : ℕ → Type 0) (xs : List ℕ) → ((k : ℕ) → k < length xs → P (get_or xs k 0)) → AllByRecursion P xs
read-all P [] each = tt
read-all P (x ∷ xs) each = (each zero (omega arith), read-all P xs (λ k below. each (suc k) (omega (arith, below))))

-- legs that may be written, and one more
pub legs-more : (roads : MapValue) (legs : List Proof) (proof : Proof) → AreLegs roads (map leg_of legs) →
    IsLeg roads (leg_of proof) → AreLegs roads (map leg_of (legs ++ proof ∷ []))
legs-more roads [] proof are is = (is, tt)
legs-more roads (first ∷ legs) proof are is = (are.0, legs-more roads legs proof are.1 is)

-- ---- Labels

-- both of two tests
both : (a b : Bool) → IsTrue (a && b) → IsTrue a × IsTrue b
both true true h = (refl, refl)
both true false h = absurd (cc)
both false b h = absurd (cc)

-- a buffer within the bounds of prices may be written
buffer-written : (prices : Prices) → IsPrices prices → (buffer : ℤ) → IsTrue (int_le (pos 0) buffer) →
    IsTrue (int_le buffer prices.limits.most) → IsBuffer buffer
buffer-written prices lawful buffer low high =
    let least : pos 0 ≤ℤ buffer = grind (arith, ints) in
    let most : buffer ≤ℤ prices.limits.most = grind (arith, ints) in
    (least, fits_signed_from_abs w64 buffer (omega (arith, ints, least, most, lawful.limits.most)))

-- ---- Legs

-- where the nodes of a leg are one, its walk without links and without labels may be written
pub home-written : (roads : MapValue) (walk : List ℕ) (cost : ℕ) (entries : List Entry) → walk ≡ [] → cost ≡ 0 →
    entries ≡ [] → IsLeg roads (record { walk = walk; cost = cost; entries = entries })
home-written roads walk cost entries no_links free no_labels = record {
  walk = subst (AllByRecursion (IsLink roads)) (sym no_links) tt;
  cost = omega (arith, free);
  entries = subst (AllByRecursion (IsEntry roads)) (sym no_labels) tt;
}

module _ (terrain : Terrain) (kept : Rested) (lawful : IsTask (task_of terrain kept))
    (none : (link : ℕ) → (task_of terrain kept).used link ≡ false) (bound : LowerBound) where
  -- a label in bounds may be written
  label-written : (entry : Entry) → IsInBounds (task_of terrain kept).leg entry → IsEntry terrain.map entry
  unfolding is_carried
  label-written entry is =
      let two = both _ _ is.carried in
      let inside : IsTrue (nat_lt entry.link (length terrain.map.links)) = two.0 in
      let pair = both _ _ two.1 in
      let down = both _ _ pair.0 in
      let up = both _ _ pair.1 in
      record {
        link = grind (arith, nat_tests);
        cost = omega (arith, is.small);
        down = buffer-written terrain.prices lawful.prices entry.down down.0 down.1;
        up = buffer-written terrain.prices lawful.prices entry.up up.0 up.1;
      }

  -- a leg that is shown a least walk may be written
  leg-written : (proof : Proof) → IsProof bound (task_of terrain kept).leg proof → IsLeg terrain.map (leg_of proof)
  leg-written proof is = record {
    walk = read-all (IsLink terrain.map) proof.walk.items
        (λ k below. (is.shows.sound.walk.is_walk.open_links k below).in_range);
    cost = omega (arith, cost-fits (task_of terrain kept) none lawful proof is.shows.sound.walk is.short);
    entries = each-all (IsEntry terrain.map) proof.entries.items
        (λ place entry there. label-written entry (is.shows.sound.bounds place entry there));
  }

  -- so may what a call shows of it
  pub shown-written : {E : Type 0} (limit : ℕ) (answer : Result (Outcome Proof) E) →
      IfOk answer (IsShown bound (task_of terrain kept).leg limit) → IfOk answer (IsWritable terrain.map)
  shown-written limit (Ok (Found proof)) is = leg-written proof is
  shown-written limit (Ok NoWay) is = tt
  shown-written limit (Ok Budget) is = tt
  shown-written limit (Err e) is = tt
