-- A job of a certificate goes on leg by leg.
use Rattle.std.proofs.Common.{◌≡◌, inl, inr, ℕ, zero, suc, ◌+◌, ◌-◌, ◌*◌, ◌<◌, ◌≤◌, List, [], ◌∷◌, ◌++◌, length, map, get_or, Bool, Some, None, Result, Vec, refl, ap, sym, subst, ◌∙◌, arith}
use Rattle.std.proofs.Math.Nat.{suc-mul}
use Rattle.std.proofs.lemmas.Option.{slice_get_within}
use Rattle.std.specs.List.{slice_get}
use Rattle.std.specs.declared.alloc.Global.{Global}
use Rattle.certificate_text.specs.Texts.{AreLegs, IsLeg, leg_of}
use Rattle.certificate_text.specs.declared.certificate.Certificate.{Certificate}
use Rattle.certificate_text.specs.declared.certificate.LowerBound.TheVariants.{Least}
use Rattle.certificate_text.specs.declared.certificate.Proof.{Proof}
use Rattle.cost_model.specs.Rides.{Setting, Terrain, leg_between}
use Rattle.item_list.proofs.ListLemmas.{slice_get-push_cases, slice_get-there}
use Rattle.item_list.specs.Turns.{Says}
use Rattle.item_list.specs.declared.turn.Turn.{Turn}
use Rattle.item_list.specs.declared.turn.Turn.TheVariants.{More, Done}
use Rattle.route_certificate.proofs.CallerLemmas.{legs-more}
use Rattle.route_certificate.specs.Asks.{IsAsk, leg_in, setting_in}
use Rattle.route_certificate.specs.Certified.{IsProof}
use Rattle.route_certificate.specs.Provings.{counted_of, most_proved}
use Rattle.route_certificate.specs.declared.ask.TrackAsk.{TrackAsk}
use Rattle.route_certificate.specs.declared.proving.Proving.{Proving}
use Rattle.route_engine.specs.CertificateJobs.{EndsLeg, IsCertificateOn, certificate_plan, counted_on, leg_most, legs_left, work_of_certificate}
use Rattle.route_engine.specs.Certificates.{AreProofs, IsCertificateFor, IsCertificateRefusal}
use Rattle.route_engine.specs.Jobs.{IsPlanOn, plan_of}
use Rattle.route_engine.specs.Labels.{beginning}
use Rattle.route_engine.specs.Plans.{LegsHaveWalks, Plan, leg_count, nth_leg}
use Rattle.route_engine.specs.Searches.{EndsSearch, StepsSearchOn}
use Rattle.route_engine.specs.declared.certificate.CertificateJob.{CertificateJob}
use Rattle.route_engine.specs.declared.plan.JobPlan.{JobPlan}
use Rattle.route_ready.specs.Worlds.{WorldValue}
use Rattle.route_ready.specs.declared.error.RouteError.{RouteError}

-- ---- What is shown

-- no legs
pub proofs-none : (plan : Plan) (legs : List Proof) → legs ≡ [] → AreProofs plan legs
proofs-none plan legs none = record {
  each = λ number proof there.
      let within = slice_get_within legs number proof there in
      absurd (omega (arith, within, ap length none));
  written = subst (λ (l : List Proof). AreLegs plan.setting.terrain.map (map leg_of l)) (sym none) tt;
}

-- a leg more
pub proofs-more : (plan : Plan) (legs after : List Proof) (proof : Proof) → AreProofs plan legs →
    IsProof Least (nth_leg plan (length legs)) proof → IsLeg plan.setting.terrain.map (leg_of proof) →
    after ≡ legs ++ proof ∷ [] → AreProofs plan after
proofs-more plan legs after proof are is fits grown = record {
  each = λ number other there.
      elim (slice_get-push_cases legs proof number other (ap (λ (l : List Proof). slice_get l number) (sym grown) ∙ there)) [
        | inl before ↦ are.each number other before
        | inr last ↦
            subst (λ n. IsProof Least (nth_leg plan n) other) (sym last.0)
            (subst (IsProof Least (nth_leg plan (length legs))) last.1 is)
      ];
  written = subst (λ (l : List Proof). AreLegs plan.setting.terrain.map (map leg_of l)) (sym grown)
      (legs-more plan.setting.terrain.map legs proof are.written fits);
}

-- each leg that is shown has a walk
pub proofs-walk : (plan : Plan) (legs : List Proof) → AreProofs plan legs → LegsHaveWalks plan (length legs)
proofs-walk plan legs are k below =
    let t = slice_get-there legs k below in (t.0.walk.items, (are.each k t.0 t.1).least.is_walk)

-- ---- What is asked with

-- the leg of what is asked with for a plan is the plan's
pub leg-asked : (plan : Plan) (seen : Terrain) (ask : TrackAsk) (place : ℕ) → seen ≡ plan.setting.terrain → ask.nodes.now ≡ plan.nodes →
    ask.cut.now ≡ plan.setting.cut → ask.turns ≡ plan.setting.turns → leg_in seen ask place ≡ nth_leg plan place
leg-asked plan seen ask place its nodes cut turns =
    let setting : Terrain → List Bool → Bool → Setting = λ t c b. record { terrain = t; cut = c; turns = b } in
    let over : setting_in seen ask ≡ plan.setting =
    ap (λ t. setting t ask.cut.now ask.turns) its ∙ ap (λ c. setting plan.setting.terrain c ask.turns) cut
    ∙ ap (setting plan.setting.terrain plan.setting.cut) turns in
    let one : place + 1 ≡ suc place = omega arith in
    ap (λ (s : Setting). leg_between s (get_or ask.nodes.now place 0) (get_or ask.nodes.now (place + 1) 0)) over
    ∙ ap (λ (ns : List ℕ). leg_between plan.setting (get_or ns place 0) (get_or ns (place + 1) 0)) nodes
    ∙ ap (λ (n : ℕ). leg_between plan.setting (get_or plan.nodes place 0) (get_or plan.nodes n 0)) one

-- it may be asked over its terrain
pub ask-fits : (world : WorldValue) (plan : JobPlan) (seen : Terrain) (ask : TrackAsk) → IsPlanOn world plan →
    seen ≡ (plan_of world plan).setting.terrain → ask.nodes.now ≡ plan.nodes → IsAsk seen ask
ask-fits world plan seen ask on its nodes = record {
  few = omega (arith, ap length nodes, on.few);
  nodes = λ k below.
      subst (λ (t : Terrain). get_or ask.nodes.now k 0 < length t.map.nodes) (sym its)
      (subst (λ (ns : List ℕ). get_or ns k 0 < length world.map.nodes) (sym nodes)
      (on.nodes_in k (omega (arith, below, ap length nodes))));
}

-- ---- What is left

-- a leg's count is no more than that of all that are left
one-left : (left most : ℕ) → 1 ≤ left → most ≤ left * most
one-left zero most some = absurd (omega (arith, some))
one-left (suc left) most some = omega (arith, suc-mul left most)

-- where more is counted on a leg, that much less is left
pub leg-counted : (left most counted spent : ℕ) → 1 ≤ left → counted + spent ≤ most →
    left * most - (counted + spent) + spent ≤ left * most - counted
leg-counted left most counted spent some within =
    let whole = one-left left most some in omega (arith, whole, within)

-- where a leg is at its end too
pub leg-less : (left fewer most counted spent : ℕ) → left ≡ suc fewer → counted + spent ≤ most →
    fewer * most + spent ≤ left * most - counted
leg-less left fewer most counted spent one within =
    let same : left * most ≡ suc fewer * most = ap (λ n. n * most) one in
    omega (arith, same, suc-mul fewer most, within)

-- ---- The end of a search

module _ (world : WorldValue) (alloc : Global) (plan : JobPlan) (legs : Vec Proof Global) (proving : Proving) where
  -- the job before it
  abbrev pub before : CertificateJob
  before = record { alloc = alloc; plan = plan; legs = legs; next = Some proving }

  -- behind the end of the search on its leg it goes on, or is at its end
  pub leg-ended : (quota counted : ℕ) (turn : Turn CertificateJob (Result Certificate RouteError)) →
      length legs.items < leg_count (plan_of world plan) → counted < quota → counted_of proving + counted ≤ most_proved (length world.map.links) plan.limit →
      EndsLeg world plan (length legs.items) turn →
      Says (StepsSearchOn (IsCertificateOn world) (certificate_plan world) (work_of_certificate world) (legs_left world) quota counted
      before) (EndsSearch IsCertificateFor IsCertificateRefusal (plan_of world plan)) turn
  leg-ended quota counted (Done end) there fits within is = is
  leg-ended quota counted (More job) there fits within is =
      let count : leg_count (plan_of world job.plan) ≡ leg_count (plan_of world plan) =
      ap (λ (p : JobPlan). leg_count (plan_of world p)) is.same in
      let fewer : legs_left world before ≡ suc (legs_left world job) = omega (arith, count, is.counted, there) in
      let most : leg_most (plan_of world job.plan) ≡ leg_most (plan_of world plan) =
      ap (λ (p : JobPlan). leg_most (plan_of world p)) is.same in
      let free : counted_on job.next ≡ 0 = ap counted_on is.none in
      let less = leg-less (legs_left world before) (legs_left world job) (leg_most (plan_of world plan))
      (beginning + counted_of proving) counted fewer (omega (arith, within)) in
      let same : legs_left world job * leg_most (plan_of world job.plan) ≡ legs_left world job * leg_most (plan_of world plan) =
      ap (λ n. legs_left world job * n) most in
      record {
        on = is.on;
        same = ap (plan_of world) is.same;
        less = omega (arith, less, same, free);
        nearer = omega (arith, fewer, fits);
      }
