-- Profiles that are being made ready: what their turns leave, and the places where they stand.
use Rattle.std.proofs.Common.{◌≡◌, ◌<◌, ◌≤◌, ℕ, ℤ, zero, suc, List, [], ◌∷◌, ◌++◌, length, get_or, set, Option, Some, None, Result, Ok, Err, Contains, inl, inr, refl, sym, ap, ◌∙◌, subst, arith, get_or-set_other, get_or-set_same}
use Rattle.std.specs.Prelude.{slice_get}
use Rattle.std.proofs.Math.Seq.{get_or-append_seam, get_or-append_right}
use Rattle.std.proofs.lemmas.Bool.{cases_eq, cases_lt}
use Rattle.std.proofs.lemmas.List.{get_or_append_left, get_or_default, get_or_past}
use Rattle.profile_text.specs.Tree.{Sections}
use Rattle.route_ready.specs.Making.{IsBegun, IsPreparing, PreparingEnds, preparing_left}
use Rattle.route_ready.specs.Readiness.{IsReadyOf, ready_of}
use Rattle.route_ready.specs.Worlds.{WorldValue, binding_in}
use Rattle.route_ready.specs.declared.comparing.Comparing.{Comparing}
use Rattle.route_ready.specs.declared.error.RouteError.{RouteError}
use Rattle.route_ready.specs.declared.linking.KeptTerms.{KeptTerms}
use Rattle.route_ready.specs.declared.linking.Linking.{Linking}
use Rattle.route_ready.specs.declared.ready.Ready.{Ready}
use Rattle.session_answers.specs.Kept.{AreGuides, IsFitting, IsKept, IsMadeFrom, IsWanted, StayAwaited}
use Rattle.session_answers.proofs.OnceLemmas.{once-added, once-dropped, once-turned, one-there}
use Rattle.session_answers.specs.declared.kept.Wanted.{Wanted}
use Rattle.session_answers.specs.declared.kept.Wanted.TheVariants as wants
use Rattle.session_answers.specs.Makings.{GivesEnd, GivesReady, HasTurn, HaveOneMaking, IsAdded, IsMakingFrom, IsOngoing, IsProgressOf, Nearer, Puts, Shared, StandsAt, left_of, making_quota, making_turns}
use Rattle.session_answers.specs.declared.kept.KeptProfiles.{KeptProfiles}
use Rattle.session_answers.specs.declared.key.Key.{Key}
use Rattle.session_answers.specs.declared.makings.Making.{Making}
use Rattle.session_answers.specs.declared.makings.Progress.{Progress}
use Rattle.session_answers.specs.declared.makings.Progress.TheVariants.{Going, Over}
use Rattle.tasks.specs.Turns.{GoesOn}
use Rattle.tasks.specs.declared.chain.Chain.{Chain}
use Rattle.way_class.specs.Facts.{Binding}

-- ---- Turns

module _ (world : WorldValue) (binding : Binding) (p : Chain Linking Comparing KeptTerms) (was : IsOngoing world binding p) where
  -- it goes on
  pub goes-on : (q : Chain Linking Comparing KeptTerms) →
      GoesOn (IsPreparing world) (PreparingEnds world) (preparing_left world making_quota) p q → IsOngoing world binding q
  goes-on q on = record {
    over = on.over;
    ends = λ end is. was.ends end (on.same end is);
    few = omega (arith, on.fewer, was.few);
  }

  -- it ends with a profile that is ready
  pub made-ready : (ready : Ready) (shared : Shared) → PreparingEnds world p (Ok ready) → shared.value ≡ ready →
      GivesReady binding (Ok shared)
  made-ready ready shared ends same = subst (IsReadyOf binding) (sym same) (was.ends (Ok ready) ends)

  -- or with a refusal
  pub made-refused : (e : RouteError) → PreparingEnds world p (Err e) → GivesReady binding (Err e)
  made-refused e ends = was.ends (Err e) ends

-- it takes no more turns than any
left-few : (world : WorldValue) (binding : Binding) (progress : Progress) → IsProgressOf world binding progress →
    left_of world progress ≤ making_turns world
left-few world binding (Going p) is = is.few
left-few world binding (Over end) is = omega arith

pub from-few : (world : WorldValue) (stored : List Sections) (making : Making) → IsMakingFrom world stored making →
    left_of world making.progress ≤ making_turns world
from-few world stored making from = left-few world (binding_in world from.sections making.key.overrides) making.progress from.is

-- a making that begins is that of the stored profile which its key names
pub begun-from : (world : WorldValue) (stored : List Sections) (key : Key) (overrides : List (List ℕ × ℤ)) (sections : Sections)
    (p : Chain Linking Comparing KeptTerms) → key.overrides ≡ overrides → slice_get stored key.place ≡ Some sections →
    IsBegun world (binding_in world sections overrides) (ready_of (binding_in world sections overrides)) p →
    IsMakingFrom world stored (record { key = key; progress = Going p })
begun-from world stored key overrides sections p same there begun = record {
  sections = sections;
  there = there;
  is = subst (λ o. IsProgressOf world (binding_in world sections o) (Going p)) (sym same)
      (record { over = begun.over; ends = begun.ends; few = begun.most making_quota (omega arith) });
}

-- no fewer turns were left before
pub left-before : (world : WorldValue) (before after : Progress) (left : ℕ) → Nearer world before after →
    left_of world before ≤ left → left_of world after ≤ left
left-before world before (Going p) left nearer few = omega (arith, nearer, few)
left-before world before (Over end) left nearer few = omega arith

-- ---- Places

-- a making stands where there is a place
pub place-within : (slots : List (Option Making)) (k : ℕ) (making : Making) → get_or slots k None ≡ Some making → k < length slots
place-within slots k making has = elim (cases_lt k (length slots)) [
  | inl below ↦ below
  | inr past ↦
      (let none : get_or slots k None ≡ None = get_or_past slots k None past in
      let clash : Some making ≡ None = sym has ∙ none in cc)
]

-- none stands where there are no places
pub none-stands : {P : Type 0} (slots : List (Option Making)) (k : ℕ) (making : Making) → slots ≡ [] → get_or slots k None ≡ Some making → P
none-stands slots k making none there =
    let clash : None ≡ Some making = sym (ap (λ (l : List (Option Making)). get_or l k None) none) ∙ there in
    absurd (cc)

-- something is put at a place
pub puts-set : (slots : List (Option Making)) (k : ℕ) (slot : Option Making) → k < length slots → Puts slots (set slots k slot) k slot
puts-set slots k slot there = record {
  is = get_or-set_same slots k slot None there;
  others = λ j other. get_or-set_other slots k j slot None other;
}

-- so it is where something else was put there before
set-twice : (slots : List (Option Making)) (k : ℕ) (a b : Option Making) → set (set slots k a) k b ≡ set slots k b
set-twice [] k a b = refl
set-twice (x ∷ slots) zero a b = refl
set-twice (x ∷ slots) (suc k) a b = ap (λ (rest : List (Option Making)). x ∷ rest) (set-twice slots k a b)

pub puts-twice : (slots : List (Option Making)) (k : ℕ) (first slot : Option Making) → k < length slots →
    Puts slots (set (set slots k first) k slot) k slot
puts-twice slots k first slot there =
    subst (λ (l : List (Option Making)). Puts slots l k slot) (sym (set-twice slots k first slot)) (puts-set slots k slot there)

-- what was taken out of a place is the making that stood there
pub taken-is : (slots : List (Option Making)) (k : ℕ) (making taken : Making) (seen found : Option Making) →
    get_or slots k None ≡ Some making → seen ≡ get_or slots k seen → found ≡ seen → found ≡ Some taken → taken ≡ making
taken-is slots k making taken seen found has is same takes =
    one-there seen taken making (sym same ∙ takes)
    (is ∙ sym (get_or_default slots k None seen (place-within slots k making has)) ∙ has)

-- a making is put behind all places
pub puts-last : (slots : List (Option Making)) (slot : Option Making) → Puts slots (slots ++ slot ∷ []) (length slots) slot
puts-last slots slot = record {
  is = get_or-append_seam slots slot [] None;
  others = λ j other. elim (cases_lt j (length slots)) [
    | inl below ↦ get_or_append_left slots (slot ∷ []) None j below
    | inr past ↦
        get_or-append_right slots (slot ∷ []) j None past
        ∙ get_or_past (slot ∷ []) _ None (omega (arith, other))
        ∙ sym (get_or_past slots j None past)
  ];
}

-- a making is added at a place that is free, or behind all places
pub added-free : (slots : List (Option Making)) (k : ℕ) (making : Making) (seen : Option Making) → k < length slots →
    seen ≡ get_or slots k seen → seen ≡ None → IsAdded slots (set slots k (Some making)) making k
added-free slots k making seen there is free = record {
  free = get_or_default slots k None seen there ∙ sym is ∙ free;
  puts = puts-set slots k (Some making) there;
}

pub added-last : (slots new : List (Option Making)) (making : Making) (k : ℕ) → k ≡ length slots → new ≡ slots ++ Some making ∷ [] →
    IsAdded slots new making k
added-last slots new making k is now =
    subst (IsAdded slots new making) (sym is)
    (subst (λ (l : List (Option Making)). IsAdded slots l making (length slots)) (sym now)
    (record { free = get_or_past slots (length slots) None (omega arith); puts = puts-last slots (Some making) }))

module _ (world : WorldValue) (old new : KeptProfiles) where
  -- ---- The makings stay

  pub same-kept : (stored : List Sections) → new.cache ≡ old.cache → new.makings.slots.items ≡ old.makings.slots.items →
      new.guides ≡ old.guides → IsKept world stored old → IsKept world stored new
  same-kept stored cache same guides kept = record {
    guides = subst (AreGuides world stored) (sym guides) kept.guides;
    made = λ entry within. kept.made entry (subst (λ c. Contains c.entries entry) cache within);
    makings = λ k making there. kept.makings k making (sym (ap (λ (l : List (Option Making)). get_or l k None) same) ∙ there);
    once = subst HaveOneMaking (sym same) kept.once;
  }

  pub same-stay : new.makings.slots.items ≡ old.makings.slots.items → StayAwaited world old new
  same-stay same place overrides left k waits = record {
    making = waits.making;
    there = ap (λ (l : List (Option Making)). get_or l k None) same ∙ waits.there;
    place_is = waits.place_is;
    overrides_are = waits.overrides_are;
    few = waits.few;
  }

  -- ---- A making is added

  module _ (making : Making) (k : ℕ) (added : IsAdded old.makings.slots.items new.makings.slots.items making k) where
    -- all others stay
    pub added-stay : StayAwaited world old new
    added-stay place overrides left j waits = elim (cases_eq j k) [
      | inl same ↦
          (let none : get_or old.makings.slots.items j None ≡ None =
          ap (λ (n : ℕ). get_or old.makings.slots.items n None) same ∙ added.free in
          let clash : Some waits.making ≡ None = sym waits.there ∙ none in cc)
      | inr other ↦ record {
        making = waits.making;
        there = added.puts.others j other ∙ waits.there;
        place_is = waits.place_is;
        overrides_are = waits.overrides_are;
        few = waits.few;
      }
    ]

    -- and all are those of stored profiles, where this one is, and none stood under its key
    pub added-kept : (stored : List Sections) → new.cache ≡ old.cache → new.guides ≡ old.guides → IsKept world stored old →
        IsMakingFrom world stored making →
        ((j : ℕ) → StandsAt old.makings.slots.items making.key j → ⊥) → IsKept world stored new
    added-kept stored cache guides kept from none = record {
      guides = subst (AreGuides world stored) (sym guides) kept.guides;
      once = once-added old.makings.slots.items new.makings.slots.items k making added none kept.once;
      made = λ entry within. kept.made entry (subst (λ c. Contains c.entries entry) cache within);
      makings = λ j found there. elim (cases_eq j k) [
        | inl same ↦
            subst (IsMakingFrom world stored)
            (one-there (get_or new.makings.slots.items j None) making found
            (ap (λ (n : ℕ). get_or new.makings.slots.items n None) same ∙ added.puts.is) there)
            from
        | inr other ↦ kept.makings j found (sym (added.puts.others j other) ∙ there)
      ];
    }

  -- ---- A making has a turn

  module _ (k : ℕ) where
    -- all stay that were awaited
    pub turned-stay : (end : Option _) → HasTurn world old.makings.slots.items new.makings.slots.items k end → StayAwaited world old new
    turned-stay end turned place overrides left j waits = elim (cases_eq j k) [
      | inl same ↦
          (let one : turned.before ≡ waits.making =
          one-there (get_or old.makings.slots.items j None) turned.before waits.making
          (ap (λ (n : ℕ). get_or old.makings.slots.items n None) same ∙ turned.there) waits.there in
          let keys : turned.after.key ≡ waits.making.key = turned.key_same ∙ ap (λ (m : Making). m.key) one in
          record {
            making = turned.after;
            there = ap (λ (n : ℕ). get_or new.makings.slots.items n None) same ∙ turned.puts.is;
            place_is = ap (λ (key : Key). key.place) keys ∙ waits.place_is;
            overrides_are = ap (λ (key : Key). key.overrides) keys ∙ waits.overrides_are;
            few = left-before world turned.before.progress turned.after.progress left turned.nearer
                (subst (λ (m : Making). left_of world m.progress ≤ left) (sym one) waits.few);
          })
      | inr other ↦ record {
        making = waits.making;
        there = turned.puts.others j other ∙ waits.there;
        place_is = waits.place_is;
        overrides_are = waits.overrides_are;
        few = waits.few;
      }
    ]

    -- and all are those of stored profiles
    pub turned-kept : (end : Option _) → HasTurn world old.makings.slots.items new.makings.slots.items k end →
        (stored : List Sections) → new.cache ≡ old.cache → new.guides ≡ old.guides → IsKept world stored old → IsKept world stored new
    turned-kept end turned stored cache guides kept =
        let was = kept.makings k turned.before turned.there in
        let from : IsMakingFrom world stored turned.after =
        record {
          sections = was.sections;
          there = ap (λ (key : Key). slice_get stored key.place) turned.key_same ∙ was.there;
          is =
              subst (λ (key : Key). IsProgressOf world (binding_in world was.sections key.overrides) turned.after.progress)
              (sym turned.key_same) (turned.sound (binding_in world was.sections turned.before.key.overrides) was.is);
        } in
        record {
          guides = subst (AreGuides world stored) (sym guides) kept.guides;
          once = once-turned old.makings.slots.items new.makings.slots.items k world end turned kept.once;
          made = λ entry within. kept.made entry (subst (λ c. Contains c.entries entry) cache within);
          makings = λ j found there. elim (cases_eq j k) [
            | inl same ↦
                subst (IsMakingFrom world stored)
                (one-there (get_or new.makings.slots.items j None) turned.after found
                (ap (λ (n : ℕ). get_or new.makings.slots.items n None) same ∙ turned.puts.is) there)
                from
            | inr other ↦ kept.makings j found (sym (turned.puts.others j other) ∙ there)
          ];
        }

-- what a making came to is a profile that was made under its key
pub turned-made : (world : WorldValue) (stored : List Sections) (making : Making) (end : Result Shared RouteError) (shared : Shared) →
    IsMakingFrom world stored making → GivesEnd world making.progress (Some end) → end ≡ Ok shared →
    IsMadeFrom world stored making.key shared.value
turned-made world stored making end shared from gives is = record {
  sections = from.sections;
  there = from.there;
  ready_is =
      let binding = binding_in world from.sections making.key.overrides in
      subst (GivesReady binding) is (gives binding from.is);
}

-- a profile that is wanted fits the world where it is ready
pub wanted-fits : (world : WorldValue) (sections : Sections) (place : ℕ) (overrides : List (List ℕ × ℤ)) (kept : KeptProfiles)
    (wanted : Wanted) → IsWanted world (binding_in world sections overrides) place overrides kept (Ok wanted) → IsFitting world wanted
wanted-fits world sections place overrides kept (wants.Ready shared) is = is.fits
wanted-fits world sections place overrides kept (wants.Making k) is = tt

-- ---- A making is dropped

-- all others are those of stored profiles still
pub dropped-kept : (world : WorldValue) (stored : List Sections) (old new : KeptProfiles) (k : ℕ) →
    Puts old.makings.slots.items new.makings.slots.items k None → new.cache ≡ old.cache → new.guides ≡ old.guides →
    IsKept world stored old → IsKept world stored new
dropped-kept world stored old new k puts cache guides kept = record {
  guides = subst (AreGuides world stored) (sym guides) kept.guides;
  once = once-dropped old.makings.slots.items new.makings.slots.items k puts kept.once;
  made = λ entry within. kept.made entry (subst (λ c. Contains c.entries entry) cache within);
  makings = λ j found there. elim (cases_eq j k) [
    | inl same ↦
        (let none : get_or new.makings.slots.items j None ≡ None =
        ap (λ (n : ℕ). get_or new.makings.slots.items n None) same ∙ puts.is in
        let clash : Some found ≡ None = sym there ∙ none in cc)
    | inr other ↦ kept.makings j found (sym (puts.others j other) ∙ there)
  ];
}
