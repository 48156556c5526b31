use Rattle.std.proofs.Common.{◌≡◌, ◌∙◌, ap, arith, get_or, length, option_map, refl, sym, unwrap_or}
use Rattle.std.proofs.lemmas.Option.{slice_get_read, slice_get_within, unwrap_or-slice_get}
use Rattle.space_search.specs.Fronts.{heads_of, member_of}
use Rattle.space_search.specs.Known.{known_fronts, only_at}
use Rattle.space_search.specs.declared.fronts.Head.TheVariants.{Empty, One}
use Rattle.space_search.proofs.FrontLemmas.{alone-here, head-read}
use Rattle.space_search.proofs.known.Known.only.Goals as goal

pub index-label-requires : goal.index-label-requires
index-label-requires g c =
    let labels = c.args.self.now.labels.now in
    let at =
    head-read (heads_of c.args.self.now.fronts.now.heads) c.args.slot c.head_at.result (One c.in-One.number) c.requires.within
    c.head_at.ensures.value c.in-One.is in
    let h = c.requires.have.heads c.args.slot (One c.in-One.number) at in
    omega (arith, slice_get_within labels.items c.in-One.number h.0 h.1, labels.ok.0)

pub returns-in-One : goal.returns-in-One
returns-in-One g c =
    let labels = c.args.self.now.labels.now.items in
    let at =
    head-read (heads_of c.args.self.now.fronts.now.heads) c.args.slot c.head_at.result (One c.in-One.number) c.requires.within
    c.head_at.ensures.value c.in-One.is in
    let h = c.requires.have.heads c.args.slot (One c.in-One.number) at in
    let there =
    slice_get_read labels (length labels) c.in-One.number c.index-label.result.now refl
    (slice_get_within labels c.in-One.number h.0 h.1) c.index-label.ensures in
    let fronts = known_fronts c.args.self.now in
    let reads : get_or fronts.heads c.args.slot Empty ≡ One c.in-One.number =
    sym (unwrap_or-slice_get fronts.heads c.args.slot Empty) ∙ ap (λ o. unwrap_or o Empty) at in
    record {
      value = ap (only_at fronts) reads ∙ ap (option_map member_of) there;
      known = record {
        head = One c.in-One.number;
        at = at;
        among = alone-here labels c.in-One.number c.index-label.result.now there;
      };
    }
