-- The end of a search over a leg, as what shows the leg's walk least.
use Rattle.std.proofs.Common.{◌≡◌, ◌≢◌, ℕ, ◌-◌, ◌<◌, ◌≤◌, ◌^◌, false, List, [], ◌∷◌, ◌++◌, length, Option, Some, None, IsTrue, sym, ap, ◌∙◌, subst, arith}
use Rattle.std.specs.List.{slice_get}
use Rattle.std.proofs.lemmas.Option.{slice_get_within}
use Rattle.certificate_text.specs.declared.certificate.Entry.{Entry}
use Rattle.certificate_text.specs.declared.certificate.LowerBound.{LowerBound}
use Rattle.certificate_text.specs.declared.certificate.Proof.{Proof}
use Rattle.cost_model.specs.Rides.{Leg}
use Rattle.cost_model.specs.declared.parts.Carry.{Carry}
use Rattle.space_search.specs.Turns.{EndsFound, EndsSpent}
use Rattle.space_search.specs.View.{IsShown as IsReadAs, Reached, View, listed}
use Rattle.bike_space.specs.Alternatives.{is_used}
use Rattle.bike_space.specs.Closed.{Entry as Labelled, IsClosedList, dear}
use Rattle.bike_space.specs.Lawful.{IsTask}
use Rattle.bike_space.specs.LegWalks.{IsLeastWalk, leg_cost}
use Rattle.bike_space.specs.Settled.{entries_of}
use Rattle.bike_space.specs.Tasks.{Task, is_carried, rules_of, walk_by}
use Rattle.bike_space.proofs.CallerLemmas.{empty-least, first-least, found-least, is-dearest, keeps-laws, ranked-agrees, run-most, settled-closed, spent-strong, strong-agrees, walk-length}
use Rattle.item_list.proofs.ListLemmas.{slice_get-pushed}
use Rattle.route_certificate.specs.Certified.{HasSpent, IsProof}
use Rattle.route_certificate.specs.Closing.{Closes}
use Rattle.route_certificate.specs.Entries.{carry_of, labels_of}
use Rattle.route_certificate.specs.Legs.{AreInBounds, AreRests, leg_rules}
use Rattle.route_certificate.proofs.ClosingLemmas.{flaw-alike, list-closes}
use Rattle.route_certificate.proofs.KnownLemmas.{rests-below}
use Rattle.route_certificate.proofs.LegLemmas.{cost-plain, flaw-one, plain-alike}
use Rattle.route_certificate.proofs.SettledLemmas.{settled-as}

-- the goal that was found can be read, behind the settled labels
pub found-read : (shown : View Carry) (label : ℕ) (goal : Reached Carry) → label ≡ length shown.settled →
    shown.goal ≡ Some goal → IsReadAs shown label goal
found-read shown label goal numbered there =
    ap (λ (g : Option (Reached Carry)). slice_get (shown.settled ++ listed g) label) there
    ∙ ap (λ (n : ℕ). slice_get (shown.settled ++ goal ∷ []) n) numbered
    ∙ slice_get-pushed shown.settled goal

module _ (task : Task) (lawful : IsTask task) (none : (link : ℕ) → task.used link ≡ false)
    (differ : task.leg.start ≢ task.leg.target) where
  module _ (shown : View Carry) (few : length shown.settled < 2 ^ 32) (label : ℕ)
      (found : EndsFound (rules_of task) shown label) (proof : Proof)
      (entries : labels_of proof.entries.items ≡ entries_of shown.settled) (cost : proof.cost ≡ found.goal.cost)
      (walk : proof.walk.items ≡ walk_by task.leg found.goal.choices) where
    -- the walk is a least one
    found-walk : IsLeastWalk task.leg proof.walk.items
    found-walk =
        let least = (found-least task shown label differ found).0 in
        subst (IsLeastWalk task.leg) (sym walk)
        (first-least task.leg (walk_by task.leg found.goal.choices)
        (ranked-agrees task.leg task.used (is_used []) (walk_by task.leg found.goal.choices) (λ link within. none link) least))

    -- at the cost that is kept
    found-cost : leg_cost task.leg proof.walk.items ≡ proof.cost
    found-cost =
        ap (leg_cost task.leg) walk ∙ sym (cost-plain task none (walk_by task.leg found.goal.choices))
        ∙ (found-least task shown label differ found).1 ∙ sym cost

    -- the labels are in bounds
    found-bounds : AreInBounds task.leg proof.entries.items
    found-bounds place entry there =
        let s = settled-as proof.entries.items shown.settled entries place entry there in
        let passed = found.closed.ordered.each place s.one s.there in
        let within = slice_get_within shown.settled place s.one s.there in
        let state : s.one.state ≡ carry_of entry = ap (λ (e : Labelled Carry). e.0) s.is in
        let costs : s.one.cost ≡ entry.cost = ap (λ (e : Labelled Carry). e.1) s.is in
        let most : ℕ = 2 ^ 32 in
        let short : length s.one.choices ≤ most = omega (arith, passed.run.short, within, few) in
        record {
          carried = subst (λ (c : Carry). IsTrue (is_carried task.leg c)) state passed.valid;
          small = omega (
            arith,
            costs,
            run-most (rules_of task) (keeps-laws task lawful) (2 ^ 81 - 1) most (is-dearest task lawful) passed.run.run short,
          );
        }

    -- and closed below that cost
    found-closes : Closes (rules_of task) proof.cost proof.entries.items
    found-closes =
        let list = settled-closed (rules_of task) (keeps-laws task lawful) shown.settled (Some found.goal.cost)
        proof.cost (λ bound floor. let at : found.goal.cost ≡ bound = cc in omega (arith, at, cost)) found.closed in
        list-closes (rules_of task) proof.cost proof.entries.items
        (subst (λ (l : List (Labelled Carry)). IsClosedList (rules_of task) proof.cost l) (sym entries) list)

    -- so all conditions hold
    pub found-proof : (bound : LowerBound) → AreRests bound task.leg task.low → IsProof bound task.leg proof
    found-proof bound rests = record {
      shows = record {
        sound = record {
          walk = record {
            is_walk = found-walk.is_walk;
            cost = found-cost;
            home = λ same. absurd (differ same);
          };
          bounds = found-bounds;
        };
        closed = λ low other.
            flaw-one bound task.leg proof task.low low (rests-below bound task.leg proof.cost task.low rests) other None
            (flaw-alike (rules_of task) (leg_rules task.leg task.low) proof.cost proof.entries.items
            (plain-alike task none proof.cost proof.entries.items) None found-closes);
      };
      least = found-walk;
      short =
          let long = ap length walk ∙ walk-length task.leg.ride.roads task.leg.start found.goal.choices in
          omega (arith, long, found.least.run.short, found.numbered, few);
    }

  -- a spent limit has its evidence
  pub spent-found : (shown : View Carry) → EndsSpent (rules_of task) shown → HasSpent task.leg shown.limit
  spent-found shown spent =
      let walks = spent-strong task lawful shown.limit (shown.settled ++ spent.taken ∷ []) spent.spent differ in
      (_, strong-agrees task.leg task.used (λ link. false) (λ link within. none link) shown.limit _ walks)

-- where the nodes of a leg are one, the walk without links is shown least by no labels
pub home-proof : (bound : LowerBound) (leg : Leg) (proof : Proof) → leg.start ≡ leg.target → proof.entries.items ≡ [] → proof.cost ≡ 0 →
    proof.walk.items ≡ [] → IsProof bound leg proof
home-proof bound leg proof same entries cost walk =
    let least : IsLeastWalk leg proof.walk.items =
    subst (IsLeastWalk leg) (sym walk) (first-least leg [] (empty-least leg (is_used []) same)) in
    let nowhere : (place : ℕ) (entry : Entry) → slice_get proof.entries.items place ≡ Some entry → ⊥ =
    λ place entry there. (
    let within = slice_get_within proof.entries.items place entry there in
    omega (arith, within, ap length entries)
    ) in
    record {
      shows = record {
        sound = record {
          walk = record {
            is_walk = least.is_walk;
            cost = ap (leg_cost leg) walk ∙ sym cost;
            home = λ _. cost;
          };
          bounds = λ place entry there. absurd (nowhere place entry there);
        };
        closed = λ low rests. record {
          starts = λ number state paid within is. dear (record { ranks = λ rest _. omega (arith, cost) });
          steps = λ place entry there. absurd (nowhere place entry there);
          goals = λ place entry there. absurd (nowhere place entry there);
        };
      };
      least = least;
      short = omega (arith, ap length walk);
    }
