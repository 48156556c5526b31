use Rattle.std.proofs.Common.{◌<◌, ◌∙◌, ◌≡◌, ap, sym, subst, length, Option, IfSome, ℕ}
use Rattle.profile_text.specs.Names.{last_place}
use Rattle.profile_text.proofs.NameLemmas.{last_place-lt}
use Rattle.profile_text.proofs.names.Names.last.Goals as goal

pub returns : goal.returns
returns c =
    let found : c.copied.result ≡ last_place c.args.self.now c.args.name.now =
    c.copied.ensures ∙ c.get.ensures.value ∙ c.self.invariant.places c.args.name.now
    ∙ ap (λ names. last_place names c.args.name.now) c.self.view_is in
    record {
      value = found;
      fits =
          subst (λ (r : Option ℕ). IfSome r (λ place. place < length c.args.self.now)) (sym found)
          (last_place-lt c.args.self.now c.args.name.now);
    }
