use Rattle.std.proofs.Common.{◌≡◌, ◌++◌, ◌∷◌, [], ◌∙◌, map, refl, ap}
use Rattle.std.proofs.lemmas.List.{map-append}
use Rattle.certificate_text.specs.declared.draft.Place.TheVariants as place_
use Rattle.certificate_text.specs.Lines.{End}
use Rattle.certificate_text.specs.Texts.{leg_of}
use Rattle.certificate_text.proofs.DraftLemmas.{takes, closed-push}
use Rattle.certificate_text.proofs.draft.Draft.take_end.Goals as goal

pub returns-in_ok-close-in-Labelled : goal.returns-in_ok-close-in-Labelled
returns-in_ok-close-in-Labelled c =
    let legs = map leg_of c.args.self.now.legs.items in
    let leg = leg_of c.args.self.now.leg in
    let later : map leg_of c.close.new.self.legs.items ≡ legs ++ (leg ∷ []) =
    ap (map leg_of) c.in_ok-close-in-Labelled.ensures.legs ∙ map-append leg_of c.args.self.now.legs.items (c.args.self.now.leg ∷ []) in
    record {
      exact = takes c.args.self.now _ End place_.Labelled place_.Ended legs (legs ++ (leg ∷ [])) leg _ c.in-Labelled.is refl refl refl
          later refl tt refl (closed-push legs leg End);
    }
