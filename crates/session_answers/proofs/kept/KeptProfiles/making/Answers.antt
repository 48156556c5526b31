use Rattle.std.proofs.Common.{◌∙◌, ap, refl}
use Rattle.profile_text.specs.Expr.{sections_in}
use Rattle.route_ready.specs.World.{world_of}
use Rattle.session_answers.proofs.MakingLemmas.{added-kept, begun-from, from-few}
use Rattle.session_answers.specs.declared.kept.KeptProfiles.{KeptProfiles}
use Rattle.session_answers.specs.declared.key.Key.{Key}
use Rattle.session_answers.specs.declared.makings.Making.{Making}
use Rattle.session_answers.specs.declared.makings.Progress.TheVariants.{Going}
use Rattle.session_answers.proofs.kept.KeptProfiles.making.Goals as goal

pub returns-in-Some-clause-exact : goal.returns-in-Some-clause-exact
returns-in-Some-clause-exact c = λ stored kept there.
    let world = world_of c.args.world.now in
    let found = c.in-Some.ensures.found in (
      record { made = kept.made; makings = kept.makings; once = kept.once; guides = kept.guides },
      record {
        making = found.making;
        there = found.there;
        place_is = ap (λ (key : Key). key.place) found.key_is;
        overrides_are = ap (λ (key : Key). key.overrides) found.key_is ∙ c.requires.same;
        few = from-few world stored found.making (kept.makings c.in-Some.k found.making found.there);
      },
    )

pub returns-in-Ok-add-clause-exact : goal.returns-in-Ok-add-clause-exact
returns-in-Ok-add-clause-exact c = λ stored kept there.
    let world = world_of c.args.world.now in
    let new : KeptProfiles = record { cache = c.args.self.now.cache; makings = c.add.new.self; guides = c.args.self.now.guides } in
    let making : Making = record { key = c.args.key; progress = Going c.in-Ok.making } in
    let added = c.in-Ok-add.ensures.added in
    let from = begun-from world stored c.args.key c.args.overrides.now (sections_in c.args.profile.now) c.in-Ok.making c.requires.same
    there c.in-Ok.ensures.begins in (
      added-kept world c.args.self.now new making c.in-Ok-add.k added stored refl refl kept from
          (c.in_default.ensures.none refl),
      record {
        making = making;
        there = added.puts.is;
        place_is = refl;
        overrides_are = c.requires.same;
        few = from-few world stored making from;
      },
    )
