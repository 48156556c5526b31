-- What a search that waits for the making of its profile comes to by a turn of it.
use Rattle.std.proofs.Common.{◌≡◌, ◌⊎◌, ◌<◌, ◌≤◌, ◌-◌, ℕ, suc, List, Option, Some, None, Result, Err, get_or, inl, inr, sym, ap, ◌∙◌, subst, arith}
use Rattle.std.specs.Prelude.{slice_get}
use Rattle.profile_text.specs.Tree.{Sections}
use Rattle.route_engine.specs.Aims.{TellsTo}
use Rattle.route_engine.specs.Answers.{early}
use Rattle.route_engine.specs.Refusals.{RefusesEarly, profile}
use Rattle.route_engine.specs.Settings.{Question}
use Rattle.route_engine.specs.declared.aim.Aim.{Aim}
use Rattle.route_engine.specs.declared.aim.Aim.TheVariants.{Certificate, Track, Table, Within}
use Rattle.route_http.specs.Asked.{Asked}
use Rattle.route_ready.specs.Readiness.{ready_of}
use Rattle.route_ready.specs.Worlds.{WorldValue, binding_in}
use Rattle.route_ready.specs.declared.error.RouteError.{RouteError}
use Rattle.route_ready.specs.declared.error.RouteError.TheVariants.{NoMemory}
use Rattle.session_answers.specs.Kept.{IsKept}
use Rattle.session_answers.specs.Makings.{HasTurn, IsGoing, IsMakingAt, IsProgressOf, Nearer, Shared, left_of}
use Rattle.session_answers.specs.Searches.{WaitsFor}
use Rattle.session_answers.specs.declared.kept.KeptProfiles.{KeptProfiles}
use Rattle.session_answers.specs.declared.key.Key.{Key}
use Rattle.session_answers.specs.declared.makings.Making.{Making}
use Rattle.session_answers.specs.declared.makings.Progress.{Progress}
use Rattle.session_answers.specs.declared.makings.Progress.TheVariants.{Going, Over}
use Rattle.way_class.specs.Facts.{Binding}

-- what stands at a place is one
making-same : (slot : Option Making) (a b : Making) → slot ≡ Some a → slot ≡ Some b → a ≡ b
making-same slot a b first second = cc

pub sections-same : (found : Option Sections) (a b : Sections) → found ≡ Some a → found ≡ Some b → a ≡ b
sections-same found a b first second = cc

-- a making that goes on has fewer turns left
going-nearer : (world : WorldValue) (before after : Progress) → IsGoing after → Nearer world before after →
    left_of world after < left_of world before
going-nearer world before (Going p) going nearer = nearer
going-nearer world before (Over end) going nearer = absurd going

module _ (world : WorldValue) (old : KeptProfiles) (place : ℕ) (aim : Aim) (left k : ℕ) (asked : Asked)
    (waits : WaitsFor world old place aim left k asked) where
  -- a making stands where it waits
  pub waits-stands : (stored : List Sections) → IsKept world stored old →
      (binding : Binding) × IsMakingAt world old.makings.slots.items k binding
  waits-stands stored kept =
      let making = waits.awaited.making in
      let from = kept.makings k making waits.awaited.there in
      (binding_in world from.sections making.key.overrides, record { making = making; there = waits.awaited.there; is = from.is })

  module _ (new : KeptProfiles) (end : Option (Result Shared RouteError))
      (turned : HasTurn world old.makings.slots.items new.makings.slots.items k end) where
    same-making : turned.before ≡ waits.awaited.making
    same-making = making-same (get_or old.makings.slots.items k None) turned.before waits.awaited.making turned.there waits.awaited.there

    -- it waits on with a turn less
    pub waits-on : IsGoing turned.after.progress → (later : ℕ) × (left ≡ suc later) × WaitsFor world new place aim later k asked
    waits-on going =
        let fewer = going-nearer world turned.before.progress turned.after.progress going turned.nearer in
        let few = subst (λ (m : Making). left_of world m.progress ≤ waits.turns) (sym same-making) waits.awaited.few in
        let keys : turned.after.key ≡ waits.awaited.making.key = turned.key_same ∙ ap (λ (m : Making). m.key) same-making in
        let enough = waits.enough in (
          left - 1,
          omega (arith, enough),
          record {
            turns = waits.turns - 1;
            awaited = record {
              making = turned.after;
              there = turned.puts.is;
              place_is = ap (λ (key : Key). key.place) keys ∙ waits.awaited.place_is;
              overrides_are = ap (λ (key : Key). key.overrides) keys ∙ waits.awaited.overrides_are;
              few = omega (arith, fewer, few);
            };
            enough = omega (arith, enough, fewer, few);
            within = waits.within;
          },
        )

    -- it is that of the profile and the overrides that are asked for, also after its turn
    pub turned-for : (stored : List Sections) (sections : Sections) → IsKept world stored old → slice_get stored place ≡ Some sections →
        IsProgressOf world (binding_in world sections asked.overrides) turned.after.progress
    turned-for stored sections kept there =
        let making = waits.awaited.making in
        let from = kept.makings k making waits.awaited.there in
        let same : from.sections ≡ sections =
        sections-same (slice_get stored place) from.sections sections
        (ap (slice_get stored) (sym waits.awaited.place_is) ∙ from.there) there in
        let was : IsProgressOf world (binding_in world sections asked.overrides) making.progress =
        subst (λ (s : Sections). IsProgressOf world (binding_in world s asked.overrides) making.progress) same
        (subst (λ o. IsProgressOf world (binding_in world from.sections o) making.progress) waits.awaited.overrides_are from.is) in
        turned.sound (binding_in world sections asked.overrides)
        (subst (λ (m : Making). IsProgressOf world (binding_in world sections asked.overrides) m.progress) (sym same-making) was)

    -- so it is of the stored profile at that place
    pub turned-any : (stored : List Sections) → IsKept world stored old →
        (sections : Sections) × IsProgressOf world (binding_in world sections asked.overrides) turned.after.progress
    turned-any stored kept =
        let from = kept.makings k waits.awaited.making waits.awaited.there in
        (from.sections, turned-for stored from.sections kept (ap (slice_get stored) (sym waits.awaited.place_is) ∙ from.there))

-- ---- Refusals

-- a refusal before any search is one, whatever is asked for
pub early-ends : (aim : Aim) (question : Question) (e : RouteError) → RefusesEarly question e → TellsTo aim question (Err e)
early-ends Track question e (inl is) = inl is
early-ends Track question e (inr is) = inr (early is)
early-ends Table question e (inl is) = inl is
early-ends Table question e (inr is) = inr (early is)
early-ends Certificate question e (inl is) = inl is
early-ends Certificate question e (inr is) = inr (early is)
early-ends Within question e (inl is) = inl is
early-ends Within question e (inr is) = inr (early is)

-- that of a profile is one
pub profile-ends : (aim : Aim) (question : Question) (e : RouteError) → (e ≡ NoMemory) ⊎ (ready_of question.binding ≡ Err e) →
    TellsTo aim question (Err e)
profile-ends aim question e (inl is) = early-ends aim question e (inl is)
profile-ends aim question e (inr is) = early-ends aim question e (inr (profile is))
