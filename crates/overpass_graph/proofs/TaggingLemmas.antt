-- Ways that are tagged member after member, and relation after relation.
use Rattle.std.proofs.Common.{◌≡◌, ℕ, ◌+◌, ◌<◌, ◌≤◌, List, length, get_or, drop, sym, ap, ◌∙◌}
use Rattle.std.proofs.lemmas.List.{drop_more, drop_all}
use Rattle.map_tables.specs.Held.{Held}
use Rattle.map_tables.specs.Kept.{Kept, Tag}
use Rattle.map_tables.specs.declared.member.Member.{Member}
use Rattle.overpass_graph.specs.Members.{KeptWay, no_member, no_relation, relation_at, tag_once, with_more_tags}
use Rattle.overpass_graph.specs.RouteTags.{tag_members, tag_of_route, with_route, with_routes}
use Rattle.overpass_graph.specs.Tagging.{TagsOn}

-- the ways go on to these
pub tags-on : (first now new : Held) (ways : List KeptWay) (left next all : List KeptWay → List KeptWay)
    → TagsOn first now left all → new ≡ with_more_tags now ways → left now.draft.ways ≡ next ways → TagsOn first new next all
tags-on first now new ways left next all on is step = record {
  held = is ∙ ap (λ h. with_more_tags h ways) on.held ∙ ap (with_more_tags first) (sym (ap (λ h. h.draft.ways) is));
  ways = ap (λ h. next h.draft.ways) is ∙ sym step ∙ on.ways;
}

-- nothing is left to do
pub tags-end : (first now : Held) (left all : List KeptWay → List KeptWay) → TagsOn first now left all →
    left now.draft.ways ≡ now.draft.ways
    → now ≡ with_more_tags first (all first.draft.ways)
tags-end first now left all on nothing = on.held ∙ ap (with_more_tags first) (sym nothing ∙ on.ways)

-- one member after the other
pub member-step : (tag : Tag) (members : List Member) (n : ℕ) (ways : List KeptWay) → n < length members
    → tag_members tag (drop n members) ways ≡ tag_members tag (drop (n + 1) members) (tag_once tag (get_or members n no_member) ways)
member-step tag members n ways below = ap (λ ms. tag_members tag ms ways) (drop_more members n no_member below)

-- behind the last
pub member-end : (tag : Tag) (members : List Member) (n : ℕ) (ways : List KeptWay) → length members ≤ n →
    tag_members tag (drop n members) ways ≡ ways
member-end tag members n ways past = ap (λ ms. tag_members tag ms ways) (drop_all n members past)

-- one relation after the other
pub relation-step : (relations : List (Kept (List Member))) (n : ℕ) (ways : List KeptWay) → n < length relations
    → with_routes (drop n relations) ways
    ≡ with_routes (drop (n + 1) relations) (with_route (tag_of_route (relation_at relations n).tags) (relation_at relations n).content ways)
relation-step relations n ways below = ap (λ rs. with_routes rs ways) (drop_more relations n no_relation below)

-- behind the last
pub relation-end : (relations : List (Kept (List Member))) (n : ℕ) (ways : List KeptWay) → length relations ≤ n →
    with_routes (drop n relations) ways ≡ ways
relation-end relations n ways past = ap (λ rs. with_routes rs ways) (drop_all n relations past)
