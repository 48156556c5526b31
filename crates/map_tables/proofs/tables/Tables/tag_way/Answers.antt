use Rattle.std.proofs.Common.{◌≡◌, ◌∙◌, ◌<◌, ap, sym, subst, length, List, ℤ, set, slice_get, Some, Ok, Err, OnOk, Result, refl, IfErr}
use Rattle.map_tables.specs.Kept.{Kept, with_tag}
use Rattle.map_tables.specs.Held.{Held}
use Rattle.map_tables.specs.Draft.{Draft, IsWithin, with_ways}
use Rattle.map_tables.proofs.ListLemmas.{there}
use Rattle.map_tables.proofs.WithinLemmas.{IsWithin-tagged}
use Rattle.map_tables.proofs.tables.Tables.tag_way.Goals as goal

-- the ways after a tag was put behind those of one, or not
tagged : {A E : Type 0} (P : List (Kept (List ℤ)) → Type 0) (Q : E → Type 0) (result : Result A E)
    (old new next : List (Kept (List ℤ)))
    → OnOk result (new ≡ next) → IfErr result (λ e. Q e × (new ≡ old)) → P old → P next → P new
tagged P Q (Ok done) old new next value kept was will = subst P (sym value) will
tagged P Q (Err e) old new next value kept was will = subst P (sym kept.1) was

-- the tables where a way was tagged, seen as a whole
whole : {A E : Type 0} (result : Result A E) (inside now : Held) (new : List (Kept (List ℤ)))
    (next : List (Kept (List ℤ)) → List (Kept (List ℤ)))
    → inside ≡ now → OnOk result (new ≡ next inside.draft.ways)
    → OnOk result (◌≡◌ {A = Held} (record { limits = inside.limits; draft = with_ways inside.draft new })
    (record { limits = now.limits; draft = with_ways now.draft (next now.draft.ways) }))
whole (Ok done) inside now new next same value =
    ap (λ (ways : List (Kept (List ℤ))). record { limits = inside.limits; draft = with_ways inside.draft ways }) value
    ∙ ap (λ (held : Held). record { limits = held.limits; draft = with_ways held.draft (next held.draft.ways) }) same
whole (Err e) inside now new next same value = tt

pub invariant_of-self : goal.invariant_of-self
invariant_of-self c =
    let draft : Draft = record {
      nodes = c.self.inside.nodes;
      ways = c.self.inside.ways;
      relations = c.self.inside.relations;
    } in
    let below : c.args.way < length c.self.inside.ways = subst (λ (held : Held). c.args.way < length held.draft.ways)
    (sym c.self.view_is) c.requires.fits in
    let here = there c.self.inside.ways c.args.way below in
    tagged (λ (ways : List (Kept (List ℤ))). IsWithin c.self.inside.limits (with_ways draft ways)) _ c.tag.result
    c.self.inside.ways c.tag.new.self _
    (c.tag.ensures.value here.0 here.1) c.tag.ensures.kept c.self.invariant
    (IsWithin-tagged c.self.inside.limits draft c.args.way here.0 (with_tag (c.args.name, c.args.value) here.0)
    c.self.invariant here.1 refl)

pub returns-clause-value : goal.returns-clause-value
returns-clause-value c = λ k at.
    whole c.tag.result _ c.args.self.now c.tag.new.self (λ ways. set ways c.args.way
    (with_tag (c.args.name, c.args.value) k)) c.self.view_is
    (c.tag.ensures.value k (subst (λ (held : Held). slice_get held.draft.ways c.args.way ≡ Some k) (sym c.self.view_is)
    at))
