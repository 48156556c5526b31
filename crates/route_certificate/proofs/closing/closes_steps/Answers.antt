use Rattle.std.proofs.Common.{◌≡◌, Some, true, inl, inr, refl, arith, subst}
use Rattle.std.proofs.lemmas.Option.{slice_get_within, slice_get-get_or}
use Rattle.std.specs.List.{slice_get}
use Rattle.item_list.proofs.ListLemmas.{slice_get-same}
use Rattle.item_list.proofs.TestLemmas.{below-next}
use Rattle.certificate_text.specs.declared.certificate.Entry.{Entry}
use Rattle.route_certificate.specs.Closing.{ClosesStepsOf}
use Rattle.route_certificate.proofs.EntryLemmas.{no_entry}
use Rattle.route_certificate.proofs.closing.closes_steps.Goals as goal

pub closes_steps_of-requires-clause-one : goal.closes_steps_of-requires-clause-one
closes_steps_of-requires-clause-one g c =
    c.requires.bounded c.entries.place _ (slice_get-get_or c.args.entries.now c.entries.place no_entry c.entries-test.true)

pub returns-then-not-closes_steps_of : goal.returns-then-not-closes_steps_of
returns-then-not-closes_steps_of g c =
    let there = slice_get-get_or c.args.entries.now c.entries.place no_entry c.entries-test.true in
    record {
      exact = (
        λ never. absurd (cc),
        λ all.
            let yes = c.closes_steps_of.ensures.exact.1 (all c.entries.place _ there) in
            let no = c.if-not-closes_steps_of.true in
            cc,
      );
    }

pub entries-preserved : goal.entries-preserved
entries-preserved g c place entry below at =
    elim (below-next place c.entries.place below) [
      | inl earlier ↦ c.entries.invariant place entry earlier at
      | inr here ↦
          let there : slice_get c.args.entries.now c.entries.place ≡ Some entry =
          subst (λ n. slice_get c.args.entries.now n ≡ Some entry) here at in
          let closes : c.closes_steps_of.result ≡ true = let no = c.if-not-closes_steps_of.false in cc in
          subst (λ (e : Entry). ClosesStepsOf (g.S.Space.rules c.args.space.now) c.args.least c.args.entries.now e)
          (slice_get-same c.args.entries.now c.entries.place _ entry
          (slice_get-get_or c.args.entries.now c.entries.place _ (slice_get_within c.args.entries.now c.entries.place entry there))
          there)
          (c.closes_steps_of.ensures.exact.0 closes)
    ]

pub returns : goal.returns
returns g c =
    record {
      exact = (
        λ yes place entry at.
            c.entries.invariant place entry
            (omega (arith, slice_get_within c.args.entries.now place entry at, c.entries-test.false)) at,
        λ all. refl,
      );
    }
