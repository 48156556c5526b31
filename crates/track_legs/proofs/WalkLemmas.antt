-- Where a walk stands, and which link it may take next.
use Rattle.std.proofs.Common.{◌≡◌, ℕ, suc, ◌+◌, ◌<◌, List, [], ◌∷◌, ◌++◌, length, take, Option, Some, None, IfSome, refl, sym, ap, ◌∙◌, subst, arith, length-append}
use Rattle.std.proofs.Math.Seq.{take-suc}
use Rattle.std.proofs.lemmas.List.{get_or-take, get_or_push, length-take-le}
use Rattle.cost_model.specs.Rides.{IsPermittedWalk, Ride}
use Rattle.overpass_graph.specs.Walks.{link_at, MayFollow}
use Rattle.overpass_graph.proofs.CallerLemmas.{walk-empty, walk-pushed}
use Rattle.track_legs.specs.Steps.{HasReached, MayComeNext}

-- a link stands at the end of a walk
pub record EndsWith (walk : List ℕ) (link : ℕ) : Type 0 where
  pub place : ℕ
  pub size : suc place ≡ length walk
  pub there : link_at walk place ≡ link

-- this is the last link of a walk; none where it has no links
abbrev pub HasLast : List ℕ → Option ℕ → Type 0
HasLast walk None = length walk ≡ 0
HasLast walk (Some link) = EndsWith walk link

-- a walk stands at a node, and this is its last link
pub record StandsAt (ride : Ride) (start : ℕ) (walk : List ℕ) (node : ℕ) (last : Option ℕ) : Type 0 where
  pub permitted : IsPermittedWalk ride start node walk
  pub ends : HasLast walk last

module _ (ride : Ride) (start : ℕ)
  where
    -- without links it stands at its start
    pub stands-start : StandsAt ride start [] start None
    stands-start = record { permitted = walk-empty ride.roads ride.is_open (MayFollow ride.roads ride.forbids) start; ends = refl }

    -- what comes next follows the last link
    next-follows : (walk : List ℕ) (node link : ℕ) (last : Option ℕ) → HasLast walk last → MayComeNext ride node last link →
        (k : ℕ) → suc k ≡ length walk → MayFollow ride.roads ride.forbids (link_at walk k) link
    next-follows walk node link None none next k size = absurd (omega arith)
    next-follows walk node link (Some before) ends next k size =
        let same : k ≡ ends.place = omega (arith, ends.size) in
        subst (λ l. MayFollow ride.roads ride.forbids l link) (sym (ap (λ n. link_at walk n) same ∙ ends.there))
        (next.follows before refl)

    -- by a link that may come next it goes on
    pub stands-next : (walk : List ℕ) (node link : ℕ) (last : Option ℕ) → StandsAt ride start walk node last →
        MayComeNext ride node last link → StandsAt ride start (walk ++ link ∷ []) (ride.roads.to link) (Some link)
    stands-next walk node link last at next = record {
      permitted = walk-pushed ride.roads ride.is_open (MayFollow ride.roads ride.forbids) start node walk link at.permitted
          next.leaves.opens next.leaves.leaves (next-follows walk node link last at.ends next);
      ends = record {
        place = length walk;
        size = omega (arith, length-append walk (link ∷ []));
        there = get_or_push walk link 0 (length walk) refl;
      };
    }

    -- so do the links of a list before a place
    pub stands-more : (walk : List ℕ) (place node reached : ℕ) (last : Option ℕ) → place < length walk →
        StandsAt ride start (take place walk) node last → MayComeNext ride node last (link_at walk place) →
        reached ≡ ride.roads.to (link_at walk place) →
        StandsAt ride start (take (place + 1) walk) reached (Some (link_at walk place))
    stands-more walk place node reached last below at next is =
        let link = link_at walk place in
        let one : place + 1 ≡ suc place = omega arith in
        let more : take (place + 1) walk ≡ take place walk ++ link ∷ [] =
        ap (λ n. take n walk) one ∙ take-suc walk place 0 below in
        subst (λ w. StandsAt ride start w reached (Some link)) (sym more)
        (subst (λ n. StandsAt ride start (take place walk ++ link ∷ []) n (Some link)) (sym is)
        (stands-next (take place walk) node link last at next))

    -- the last link is that by which the node was reached
    pub stands-reached : (walk : List ℕ) (node : ℕ) (last : Option ℕ) → StandsAt ride start walk node last →
        IfSome last (λ before. HasReached ride.roads node before)
    stands-reached walk node None at = tt
    stands-reached walk node (Some before) at =
        let below : at.ends.place < length walk = omega (arith, at.ends.size) in
        record {
          in_range = subst (λ l. l < ride.roads.links) at.ends.there (at.permitted.open_links at.ends.place below).in_range;
          arrives = subst (λ l. ride.roads.to l ≡ node) at.ends.there (at.permitted.arrives at.ends.place at.ends.size);
        }

    -- a link of a walk may come next behind those before it
    pub stands-only : (walk : List ℕ) (place target node : ℕ) (last : Option ℕ) → place < length walk →
        IsPermittedWalk ride start target walk → StandsAt ride start (take place walk) node last →
        MayComeNext ride node last (link_at walk place)
    stands-only walk place target node None below is at =
        let size = length-take-le place walk (omega arith) in
        let first : place ≡ 0 = omega (arith, size, at.ends) in
        record {
          leaves = record {
            opens = is.open_links place below;
            leaves = ap (λ n. ride.roads.from (link_at walk n)) first ∙ is.leaves (omega arith) ∙ at.permitted.stays at.ends;
          };
          follows = λ before e. absurd cc;
        }
    stands-only walk place target node (Some before) below is at =
        let link = link_at walk place in
        let size = length-take-le place walk (omega arith) in
        let next : suc at.ends.place ≡ place = omega (arith, size, at.ends.size) in
        let inner : at.ends.place < place = omega arith in
        let there : link_at walk at.ends.place ≡ before =
        sym (get_or-take place walk at.ends.place 0 inner) ∙ at.ends.there in
        let steps : MayFollow ride.roads ride.forbids (link_at walk at.ends.place) (link_at walk (suc at.ends.place)) =
        is.goes_on at.ends.place (omega arith) in
        let follows : MayFollow ride.roads ride.forbids before link =
        subst (λ l. MayFollow ride.roads ride.forbids l link) there
        (subst (λ n. MayFollow ride.roads ride.forbids (link_at walk at.ends.place) (link_at walk n)) next steps) in
        let reached : HasReached ride.roads node before = stands-reached (take place walk) node (Some before) at in
        record {
          leaves = record { opens = is.open_links place below; leaves = follows.joins ∙ reached.arrives };
          follows = λ other e.
              let same : before ≡ other = cc in subst (λ l. MayFollow ride.roads ride.forbids l link) same follows;
        }

    -- a list of links is a walk to one node alone
    pub one-end : (walk : List ℕ) (a b : ℕ) → IsPermittedWalk ride start a walk → IsPermittedWalk ride start b walk → a ≡ b
    one-end [] a b to_a to_b = sym (to_a.stays refl) ∙ to_b.stays refl
    one-end (link ∷ walk) a b to_a to_b = sym (to_a.arrives (length walk) refl) ∙ to_b.arrives (length walk) refl
