use Rattle.std.proofs.Common.{◌≡◌, ◌∙◌, [], ◌∷◌, ◌++◌, inr, true, false, sym, ap, subst, OnOk, Err, Some, None, w64, refl, ℤ}
use Rattle.std.proofs.lemmas.Int.{to_z-of_z}
use Rattle.map_tables.specs.Kept.{place_of_id}
use Rattle.map_tables.specs.declared.error.MapError.TheVariants.{DoubleId}
use Rattle.map_tables.proofs.ListLemmas.{there}
use Rattle.map_tables.proofs.KeptLemmas.{keep-new, keep-old, Becomes-next}
use Rattle.map_tables.proofs.table.Table.add.Goals as goal

pub returns-then-is_kept_as : goal.returns-then-is_kept_as
returns-then-is_kept_as g c =
    let found : place_of_id c.args.id c.args.self.now ≡ Some c.in-Some.place =
    ap (λ id. place_of_id id c.args.self.now) (sym (to_z-of_z w64 c.args.id c.ranges.id))
    ∙ sym c.in-Some.ensures.value in
    let here = there c.args.self.now c.in-Some.place c.in-Some.ensures.fits in
    let same = ap (λ content. g.C.Content.same content (g.G.Given.stands c.args.given.now)) (sym (c.content.ensures.value here.0 here.1))
    ∙ sym c.is_kept_as.ensures.value ∙ c.if-is_kept_as.true in
    record {
      exact = Becomes-next c.again.result c.args.self.now c.again.new.self _ _
          (keep-old g.C.Content.same (DoubleId c.args.kind c.args.id) c.args.beyond
          (record { id = c.args.id; content = g.G.Given.stands c.args.given.now; tags = c.args.tags }) c.args.self.now c.in-Some.place
          here.0 true c.len-distinct.ensures.distinct found here.1 same)
          (c.again.ensures.value here.0 here.1) c.again.ensures.kept;
    }

pub returns-else-is_kept_as : goal.returns-else-is_kept_as
returns-else-is_kept_as g c =
    let found : place_of_id c.args.id c.args.self.now ≡ Some c.in-Some.place =
    ap (λ id. place_of_id id c.args.self.now) (sym (to_z-of_z w64 c.args.id c.ranges.id))
    ∙ sym c.in-Some.ensures.value in
    let here = there c.args.self.now c.in-Some.place c.in-Some.ensures.fits in
    let other = ap (λ content. g.C.Content.same content (g.G.Given.stands c.args.given.now)) (sym (c.content.ensures.value here.0 here.1))
    ∙ sym c.is_kept_as.ensures.value ∙ c.if-is_kept_as.false in
    record {
      exact = (
        inr (keep-old g.C.Content.same (DoubleId c.args.kind c.args.id) c.args.beyond
            (record { id = c.args.id; content = g.G.Given.stands c.args.given.now; tags = c.args.tags }) c.args.self.now c.in-Some.place
            here.0 false c.len-distinct.ensures.distinct found here.1 other
            ∙ ap (λ id. Err (DoubleId c.args.kind id)) (sym (to_z-of_z w64 c.args.id c.ranges.id))),
        refl,
      );
    }

pub returns-in-Some-beyond : goal.returns-in-Some-beyond
returns-in-Some-beyond g c =
    let none : place_of_id c.args.id c.args.self.now ≡ None =
    ap (λ id. place_of_id id c.args.self.now) (sym (to_z-of_z w64 c.args.id c.ranges.id))
    ∙ sym c.in-None.ensures.value in
    record {
      exact = (
        inr (keep-new g.C.Content.same (DoubleId c.args.kind c.args.id) c.args.beyond (Some c.in-Some-beyond.fault)
            (record { id = c.args.id; content = g.G.Given.stands c.args.given.now; tags = c.args.tags }) c.args.self.now none
            c.in-Some-beyond.is),
        refl,
      );
    }

pub returns-in-None-beyond : goal.returns-in-None-beyond
returns-in-None-beyond g c =
    let none : place_of_id c.args.id c.args.self.now ≡ None =
    ap (λ id. place_of_id id c.args.self.now) (sym (to_z-of_z w64 c.args.id c.ranges.id))
    ∙ sym c.in-None.ensures.value in
    record {
      exact = Becomes-next c.keep.result c.args.self.now c.keep.new.self _ _
          (keep-new g.C.Content.same (DoubleId c.args.kind c.args.id) c.args.beyond None
          (record { id = c.args.id; content = g.G.Given.stands c.args.given.now; tags = c.args.tags }) c.args.self.now none
          c.in-None-beyond.is)
          (subst (λ (id : ℤ). OnOk c.keep.result (c.keep.new.self ≡ c.args.self.now ++ record
          { id = id; content = g.G.Given.stands c.args.given.now; tags = c.args.tags } ∷ []))
          (to_z-of_z w64 c.args.id c.ranges.id) c.keep.ensures.value)
          c.keep.ensures.kept;
    }
