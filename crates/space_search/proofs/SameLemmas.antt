-- What a search's lists say stays true where no label is settled.
use Rattle.std.proofs.Common.{◌≡◌, ℕ, ◌<◌, ◌≤◌, inl, inr, List, [], length, get_or, Some, refl, ap, arith, sym, ◌∙◌, subst}
use Rattle.std.proofs.lemmas.Option.{slice_get_within}
use Rattle.std.specs.List.{slice_get, Contains}
use Rattle.space_search.specs.Rules.{Rules}
use Rattle.space_search.specs.Blocks.{members_of, AreFloors}
use Rattle.space_search.specs.Books.{Books, IsLabel, IsSettled, CameFrom, from_start, from_label, Follows, IsLater, IsNeedless, IsIndex, Reads, IsRising, Stands, KeepsLabels, IsSearch, Leaves, asked_of}
use Rattle.space_search.specs.Fronts.{Asked, AreFronts, IsAsked, IsHead, alone, front_at, member_of}
use Rattle.space_search.specs.declared.fronts.Block.{Block}
use Rattle.space_search.specs.declared.fronts.Head.{Head}
use Rattle.space_search.specs.declared.fronts.Head.TheVariants.{Empty, One, Many}
use Rattle.space_search.specs.declared.fronts.Member.{Member}
use Rattle.space_search.specs.declared.label.Label.{Label}
use Rattle.item_list.proofs.ListLemmas.{slice_get-same}

-- one place has one label
pub settled-unique :
    {S : Type 0} (kept : Books S) (place : ℕ) (a b : Label S) → IsSettled kept place a → IsSettled kept place b → a ≡ b
settled-unique kept place a b p q =
    let same : p.number ≡ q.number = slice_get-same kept.settled place p.number q.number p.at q.at in
    slice_get-same kept.labels q.number a b (subst (λ n. IsLabel kept n a) same p.there) q.there

-- a place of a settled label is below their number
pub settled-within : {S : Type 0} (kept : Books S) (place : ℕ) (label : Label S) → IsSettled kept place label → place < length kept.settled
settled-within kept place label s = slice_get_within kept.settled place s.number s.at

-- what a label says of itself stays true where settled labels keep their places
came-moved :
    {S : Type 0} (rules : Rules S) (before after : Books S) (low high : ℕ) (label : Label S) →
    KeepsLabels before after → low ≤ high → CameFrom rules before low label → CameFrom rules after high label
came-moved rules before after low high label keeps up (from_start none within is) = from_start none within is
came-moved rules before after low high label keeps up (from_label place parent cost named below settled within is sum) =
    from_label place parent cost named (omega arith) (keeps place parent settled) within is sum

-- and so does that it follows
pub follows-moved :
    {S : Type 0} (rules : Rules S) (before after : Books S) (low high : ℕ) (label : Label S) →
    KeepsLabels before after → low ≤ high → Follows rules before low label → Follows rules after high label
follows-moved rules before after low high label keeps up f =
    record {
      valid = f.valid;
      bounded = omega (arith, f.bounded);
      came = came-moved rules before after low high label keeps up f.came;
    }

-- what is later than the settled labels is later than those of before
later-before :
    {S : Type 0} (rules : Rules S) (before after : Books S) → KeepsLabels before after → (state : S) (cost : ℕ) →
    IsLater rules after state cost → IsLater rules before state cost
later-before rules before after keeps state cost later =
    record {
      valid = later.valid;
      rank = later.rank;
      ranked = later.ranked;
      above = λ place label low high s. later.above place label low high (keeps place label s);
    }

-- a needless label stays needless where settled labels keep their places
pub needless-moved :
    {S : Type 0} (rules : Rules S) (before after : Books S) (place : ℕ) (label : Label S) → KeepsLabels before after →
    IsNeedless rules before place label → IsNeedless rules after place label
needless-moved rules before after place label keeps needless state cost later covers =
    let c = needless state cost (later-before rules before after keeps state cost later) covers in
    record {
      place = c.place;
      label = c.label;
      settled = keeps c.place c.label c.settled;
      after = c.after;
      covers = c.covers;
    }

-- where labels are added alone, the fronts stay
module _ {S : Type 0} (before after : Asked S)
    (more : (number : ℕ) (label : Label S) → slice_get before.labels number ≡ Some label → slice_get after.labels number ≡ Some label)
    (heads : after.heads ≡ before.heads) (many : after.many ≡ before.many) where
  -- a front that there is stays
  front-same : (head : Head) → IsHead before head → front_at after head ≡ front_at before head
  front-same Empty h = refl
  front-same (One number) h = ap alone (more number h.0 h.1 ∙ sym h.1)
  front-same (Many place) h = ap (λ m. members_of (get_or m place [])) many

  -- and there still is one
  head-same : (head : Head) → IsHead before head → IsHead after head
  head-same Empty h = tt
  head-same (One number) h = (h.0, more number h.0 h.1)
  head-same (Many place) h = omega (arith, h, ap length many)

  -- each slot has its front
  pub fronts-same : AreFronts before → AreFronts after
  fronts-same f =
      record {
        heads = λ slot head at. head-same head (f.heads slot head (rw (← heads) at));
        apart = λ a b place p q. f.apart a b place (rw (← heads) p) (rw (← heads) q);
      }

  -- what a slot is asked it was asked before
  pub asked-back : AreFronts before → (slot : ℕ) (one : Member S) → IsAsked after slot one → IsAsked before slot one
  asked-back f slot one is =
      let at : slice_get before.heads slot ≡ Some is.head = rw (← heads) is.at in
      record {
        head = is.head;
        at = at;
        among = subst (λ (l : List (Member S)). Contains l one) (front-same is.head (f.heads slot is.head at)) is.among;
      }

  -- and it is asked that still
  pub asked-on : AreFronts before → (slot : ℕ) (one : Member S) → IsAsked before slot one → IsAsked after slot one
  asked-on f slot one is =
      record {
        head = is.head;
        at = rw heads is.at;
        among = subst (λ (l : List (Member S)). Contains l one) (sym (front-same is.head (f.heads slot is.head is.at))) is.among;
      }

module _ {S : Type 0} (rules : Rules S) (before after : Books S)
    (more : (number : ℕ) (label : Label S) → IsLabel before number label → IsLabel after number label)
    (stands : Stands rules before) (settled : after.settled ≡ before.settled) where
  -- settled labels keep their places
  pub keeps-same : KeepsLabels before after
  keeps-same place label s =
      record {
        number = s.number;
        at = rw settled s.at;
        there = more s.number label s.there;
      }

  -- and there are no others
  pub keeps-back : KeepsLabels after before
  keeps-back place label s =
      let at : slice_get before.settled place ≡ Some s.number = rw (← settled) s.at in
      let old = stands.reads.settled_there place s.number at in
      let same : old.0 ≡ label = slice_get-same after.labels s.number old.0 label (more s.number old.0 old.1) s.there in
      record { number = s.number; at = at; there = subst (λ l. IsLabel before s.number l) same old.1 }

  -- they read as before
  reads-same : Reads rules after
  reads-same =
      record {
        few_settled = rw settled stands.reads.few_settled;
        settled_there = λ place number at.
            let old = stands.reads.settled_there place number (rw (← settled) at) in (old.0, more number old.0 old.1);
        settled_follows = λ place label s.
            follows-moved rules before after place place label keeps-same (omega arith)
            (stands.reads.settled_follows place label (keeps-back place label s));
      }

  -- they are in order as before
  rising-same : IsRising rules before → IsRising rules after
  rising-same r =
      record {
        ranked = λ place label s. r.ranked place label (keeps-back place label s);
        rising = λ first second a b low high up p q. r.rising first second a b low high up (keeps-back first a p) (keeps-back second b q);
        apart = λ first second a b up p q. r.apart first second a b up (keeps-back first a p) (keeps-back second b q);
      }

  -- and they still stand
  pub stands-same : Stands rules after
  stands-same =
      record {
        reads = reads-same;
        no_goal = λ place label s. stands.no_goal place label (keeps-back place label s);
        rising = rising-same stands.rising;
      }

  -- and so are the fronts
  pub index-same : after.heads ≡ before.heads → after.many ≡ before.many → IsIndex rules before → IsIndex rules after
  index-same heads many i =
      record {
        slots = ap length heads ∙ i.slots;
        fronts = fronts-same (asked_of before) (asked_of after) more heads many i.fronts;
        floors = subst (λ (m : List (List (Block S))). AreFloors rules m) (sym many) i.floors;
        inside = λ slot one is.
            let s = i.inside slot one (asked-back (asked_of before) (asked_of after) more heads many i.fronts slot one is) in
            record {
              place = s.place;
              label = s.label;
              settled = keeps-same s.place s.label s.settled;
              slot_is = s.slot_is;
              is = s.is;
            };
        last = λ place label s.
            elim (i.last place label (keeps-back place label s)) [
              | inl is ↦
                  inl (asked-on (asked_of before) (asked_of after) more heads many i.fronts (rules.slot label.state)
                  (member_of label) is)
              | inr needless ↦ inr (needless-moved rules before after place label keeps-same needless)
            ];
      }

-- where memory ran out before the label was settled, nothing that is read has changed
pub leaves-failed :
    {S : Type 0} (rules : Rules S) (kept : Books S) (settled : List ℕ) (heads : List Head)
    (many : List (List (Block S))) → IsSearch rules kept →
    settled ≡ kept.settled →
    Leaves rules kept
    (record { labels = kept.labels; queue = kept.queue; settled = settled; heads = heads; many = many })
leaves-failed rules kept settled heads many search is =
    let after : Books _ =
    record { labels = kept.labels; queue = kept.queue; settled = settled; heads = heads; many = many } in
    record {
      stands = stands-same rules kept after (λ n l h. h) search.stands is;
      keeps = keeps-same rules kept after (λ n l h. h) search.stands is;
    }
