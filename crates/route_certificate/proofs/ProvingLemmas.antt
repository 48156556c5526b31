-- The search for the walk of a leg with what shows it least: how it begins, goes on and ends.
use Rattle.std.proofs.Common.{◌≡◌, ◌≢◌, ℕ, ◌+◌, ◌-◌, ◌<◌, ◌≤◌, false, length, refl, sym, ap, subst, ◌∙◌, Ok, Result, arith}
use Rattle.std.specs.declared.alloc.AllocError.{AllocError}
use Rattle.bike_space.specs.Kept.{Wakes, task_of}
use Rattle.bike_space.specs.Openings.{IsOpened, OpensOn}
use Rattle.bike_space.specs.Tasks.{rules_of}
use Rattle.bike_space.specs.declared.opening.Opening.{Opening as Opened}
use Rattle.bike_space.specs.declared.rested.Rested.{Rested}
use Rattle.bike_space.proofs.CallerLemmas.{rest-behind}
use Rattle.certificate_text.specs.declared.certificate.LowerBound.{LowerBound}
use Rattle.certificate_text.specs.declared.certificate.LowerBound.TheVariants.{Least}
use Rattle.certificate_text.specs.declared.certificate.Proof.{Proof}
use Rattle.cost_model.specs.Rides.{Leg, Terrain}
use Rattle.cost_model.specs.declared.parts.Carry.{Carry}
use Rattle.item_list.specs.Turns.{Says}
use Rattle.item_list.specs.declared.turn.Turn.{Turn}
use Rattle.item_list.specs.declared.turn.Turn.TheVariants.{More, Done}
use Rattle.space_search.proofs.CallerLemmas.{settled-within}
use Rattle.space_search.specs.Rules.{Rules}
use Rattle.space_search.specs.Searches.{IsSearchOf}
use Rattle.space_search.specs.View.{view}
use Rattle.space_search.specs.declared.outcome.Outcome.{Outcome}
use Rattle.space_search.specs.declared.search.Search.{Search}
use Rattle.route_certificate.specs.Certified.{IsShown, IsWritable}
use Rattle.route_certificate.specs.Legs.{AreRests}
use Rattle.route_certificate.specs.Provings.{IsProvingFor, IsSettlingFor, ProvesOn, StepsProving, most_proved}
use Rattle.route_certificate.specs.declared.proving.Proving.{Proving}
use Rattle.route_certificate.specs.declared.proving.Stage.TheVariants.{Opening, Settling}
use Rattle.route_certificate.proofs.WritableLemmas.{shown-written}

-- what a space of a leg is when it is made
pub record SpaceMade (terrain : Terrain) (bound : LowerBound) (leg : Leg) (kept : Rested) : Type 0 where
  pub wakes : Wakes terrain kept
  pub is : (task_of terrain kept).leg ≡ leg
  pub unused : (link : ℕ) → (task_of terrain kept).used link ≡ false
  pub rests : AreRests bound (task_of terrain kept).leg (task_of terrain kept).low

-- a space and a search that is new are a search on the leg
pub settling-new : (terrain : Terrain) (bound : LowerBound) (leg : Leg) (limit : ℕ) (kept after : Rested) (search : Search Carry) →
    after ≡ kept → SpaceMade terrain bound leg kept → leg.start ≢ leg.target →
    ((rules : Rules Carry) → IsSearchOf rules search) → (view search).limit ≡ limit →
    IsSettlingFor terrain bound leg limit after search
settling-new terrain bound leg limit kept after search same made differ of limited =
    subst (λ k. IsSettlingFor terrain bound leg limit k search) (sym same)
    (record {
      wakes = made.wakes;
      is = made.is;
      unused = made.unused;
      rests = subst (λ (l : Leg). AreRests bound l (task_of terrain kept).low) made.is made.rests;
      differ = differ;
      of = of (rules_of (task_of terrain kept));
      limited = limited;
    })

-- a step counts no more than its quota
pub steps-few :
    (quota counted : ℕ) (before : Proving) (turn : Turn Proving (Outcome Proof)) →
    Says (ProvesOn quota counted before) (λ _. counted < quota) turn → counted ≤ quota
steps-few quota counted before (More next) goes = goes.fits
steps-few quota counted before (Done end) fewer = omega (arith, fewer)

-- ---- What still has to be paid is being found

module _ (terrain : Terrain) (bound : LowerBound) (leg : Leg) (limit quota : ℕ) (opening : Opened) (most counted : ℕ)
    (is : IsProvingFor terrain bound leg limit (record { stage = Opening opening; limit = most; counted = counted }))
    (some : 1 ≤ quota) where
  abbrev pub opening-before : Proving
  opening-before = record { stage = Opening opening; limit = most; counted = counted }

  -- it goes on
  pub opening-on : (after : Opened) → OpensOn terrain opening after →
      StepsProving terrain bound leg limit quota opening-before
      (record { counted = 1; turn = More (record { stage = Opening after; limit = most; counted = counted + 1 }) })
  opening-on after opens =
      let was = is.counts in
      record {
        answers = record {
          stage = record {
            opens = opens.opens;
            is = opens.leg ∙ is.stage.is;
            unused = λ link. ap (λ u. u link) opens.used ∙ is.stage.unused link;
            near = opens.all is.stage.near;
            least = is.stage.least;
            differ = is.stage.differ;
          };
          limited = is.limited;
          small = is.small;
          counts = let fewer = opens.fewer in omega (arith, was, fewer);
          links = is.links;
        };
        fits = tt;
        goes = record { fits = some; next = refl; nearer = omega arith };
        within = omega (arith, was);
      }

  -- at its end labels are settled
  pub opening-done : (kept : Rested) → IsOpened terrain opening kept → (search : Search Carry) →
      IsSearchOf (rules_of (task_of terrain kept)) search → (view search).limit ≡ most → length (view search).settled ≡ 0 →
      StepsProving terrain bound leg limit quota opening-before
      (record { counted = 1; turn = More (record { stage = Settling kept search; limit = most; counted = counted + 1 }) })
  opening-done kept opened search of limited none =
      let was = is.counts in
      let its : (task_of terrain kept).leg ≡ leg = opened.leg ∙ is.stage.is in
      let unused : (link : ℕ) → (task_of terrain kept).used link ≡ false = λ link.
      ap (λ u. u link) opened.used ∙ is.stage.unused link in
      record {
        answers = record {
          stage = record {
            wakes = opened.wakes;
            is = its;
            unused = unused;
            rests = subst (λ b. AreRests b leg (task_of terrain kept).low) (sym is.stage.least)
                (subst (λ (l : Leg). AreRests Least l (task_of terrain kept).low) its
                (rest-behind (task_of terrain kept) opened.wakes.lawful unused (opened.whole is.stage.near)));
            differ = is.stage.differ;
            of = of;
            limited = limited ∙ is.limited;
          };
          limited = is.limited;
          small = is.small;
          counts = omega (arith, was, none);
          links = is.links;
        };
        fits = tt;
        goes = record { fits = some; next = refl; nearer = omega arith };
        within = omega (arith, was);
      }

-- ---- Labels are settled

module _ (terrain seen : Terrain) (bound : LowerBound) (leg : Leg) (limit quota : ℕ) (kept woken : Rested) (old : Search Carry)
    (most counted : ℕ) (its : seen ≡ terrain) (same : woken ≡ kept)
    (is : IsProvingFor terrain bound leg limit (record { stage = Settling kept old; limit = most; counted = counted })) where
  abbrev pub settling-before : Proving
  settling-before = record { stage = Settling kept old; limit = most; counted = counted }

  -- what is said over the space that was woken is said over the one that rests
  over : (P : Terrain → Rested → Type 0) → P seen woken → P terrain kept
  over P p = subst (P terrain) same (subst (λ t. P t woken) its p)

  -- it ends as the leg does
  pub settling-shown : (next : Search Carry) (end : Outcome Proof) → (view next).limit ≡ (view old).limit →
      ((b : LowerBound) → AreRests b (task_of seen woken).leg (task_of seen woken).low →
      IsShown b (task_of seen woken).leg (view next).limit end) → IsShown bound leg limit end
  settling-shown next end limited told =
      let here = over
      (λ t k. (b : LowerBound) → AreRests b (task_of t k).leg (task_of t k).low → IsShown b (task_of t k).leg (view next).limit end)
      told in
      let its_rests = subst (λ (l : Leg). AreRests bound l (task_of terrain kept).low) (sym is.stage.is) is.stage.rests in
      subst (λ n. IsShown bound leg n end) (limited ∙ is.stage.limited)
      (subst (λ (l : Leg). IsShown bound l (view next).limit end) is.stage.is (here bound its_rests))

  -- and what it ends with may be written
  pub settling-fits : (end : Outcome Proof) → IsShown bound leg limit end → IsWritable terrain.map end
  settling-fits end shown =
      let answer : Result (Outcome Proof) AllocError = Ok end in
      shown-written terrain kept is.stage.wakes.lawful is.stage.unused bound limit answer
      (subst (λ (l : Leg). IsShown bound l limit end) (sym is.stage.is) shown)

  module _ (next : Search Carry) (settled : ℕ) (of : IsSearchOf (rules_of (task_of seen woken)) next)
      (limited : (view next).limit ≡ (view old).limit)
      (grown : length (view next).settled ≡ length (view old).settled + settled) where
    -- the search goes on
    pub settling-stage : (after : Rested) → after ≡ woken → IsSettlingFor terrain bound leg limit after next
    settling-stage after rests =
        subst (λ k. IsSettlingFor terrain bound leg limit k next) (sym (rests ∙ same))
        (record {
          wakes = is.stage.wakes;
          is = is.stage.is;
          unused = is.stage.unused;
          rests = is.stage.rests;
          differ = is.stage.differ;
          of = over (λ t k. IsSearchOf (rules_of (task_of t k)) next) of;
          limited = limited ∙ is.stage.limited;
        })

    -- what was counted stays within the most
    settling-counts : counted + settled + (limit - length (view next).settled) ≤ most_proved (length terrain.map.links) limit
    settling-counts =
        let most = settled-within (rules_of (task_of seen woken)) next of in
        let was = is.counts in
        let its_limit = is.stage.limited in
        omega (arith, was, grown, most, limited, its_limit)

    pub settling-on : (after : Rested) → after ≡ woken → settled ≡ quota → 1 ≤ quota →
        StepsProving terrain bound leg limit quota settling-before
        (record { counted = settled; turn = More (record { stage = Settling after next; limit = most; counted = counted + settled }) })
    settling-on after rests whole some =
        let within = settling-counts in
        record {
          answers = record {
            stage = settling-stage after rests;
            limited = is.limited;
            small = is.small;
            counts = within;
            links = is.links;
          };
          fits = tt;
          goes = record { fits = omega (arith, whole); next = refl; nearer = omega (arith, whole, some) };
          within = omega (arith, within);
        }

    -- or is at its end
    pub settling-done : (end : Outcome Proof) → IsShown bound leg limit end → settled < quota →
        StepsProving terrain bound leg limit quota settling-before (record { counted = settled; turn = Done end })
    settling-done end shown fewer =
        let within = settling-counts in
        record {
          answers = shown;
          fits = settling-fits end shown;
          goes = fewer;
          within = omega (arith, within);
        }
