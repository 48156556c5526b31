-- What holds of the lists of a search in which nothing stands yet.
use Rattle.std.proofs.Common.{◌≡◌, ℕ, ◌<◌, ◌≤◌, List, [], length, get_or, replicate, Some, refl, ap, arith, sym, ◌∙◌}
use Rattle.std.proofs.Math.ListN.{length-replicate}
use Rattle.std.proofs.lemmas.List.{get_or-replicate}
use Rattle.std.proofs.lemmas.Option.{slice_get_within, get_or_from_slice_get}
use Rattle.std.specs.List.{slice_get}
use Rattle.space_search.specs.Books.{Books, IsSettled, IsFresh, IsIndex, IsSearch, HasStarts, RanksAbove, Stands, Leaves}
use Rattle.space_search.specs.Fronts.{Asked, AreFronts, IsAsked, IsHead, front_at}
use Rattle.space_search.specs.Moves.{Begins}
use Rattle.space_search.specs.Rules.{Rules}
use Rattle.space_search.specs.declared.fronts.Head.{Head}
use Rattle.space_search.specs.declared.fronts.Head.TheVariants.{Empty, Many}
use Rattle.space_search.specs.declared.fronts.Member.{Member}
use Rattle.space_search.specs.declared.label.Label.{Label}
use Rattle.space_search.proofs.SplitLemmas.{none-in}

-- nothing is read of a list that is empty
none-read : {X A : Type 0} (xs : List X) (place : ℕ) (x : X) → xs ≡ [] → slice_get xs place ≡ Some x → A
none-read xs place x none is =
    let within : place < length xs = slice_get_within xs place x is in
    absurd (omega (arith, within, ap length none))

module _ {S : Type 0} (rules : Rules S) (kept : Books S) (none : kept.settled ≡ []) where
  -- no label is settled
  none-settled : {A : Type 0} (place : ℕ) (label : Label S) → IsSettled kept place label → A
  none-settled place label s = none-read kept.settled place s.number none s.at

  -- so each state ranks no less than any
  pub above-none : (state : S) (cost : ℕ) → RanksAbove rules kept state cost
  above-none state cost place label low high s = none-settled place label s

  -- what holds of the settled labels holds of none
  pub stands-none : Stands rules kept
  stands-none =
      record {
        reads =
            record {
              few_settled = omega (arith, ap length none);
              settled_there = λ place number is. none-read kept.settled place number none is;
              settled_follows = λ place label s. none-settled place label s;
            };
        no_goal = λ place label s. none-settled place label s;
        rising =
            record {
              ranked = λ place label s. none-settled place label s;
              rising = λ first second a b low high upto s. none-settled first a s;
              apart = λ first second a b below s. none-settled first a s;
            };
      }

  -- whatever stands after it, no settled label is lost
  pub leaves-none : (after : Books S) → Stands rules after → Leaves rules kept after
  leaves-none after stands = record { stands = stands; keeps = λ place label s. none-settled place label s }

  -- once all starts are taken care of, everything is
  pub begins-all :
      (count : ℕ) → IsSearch rules kept → HasStarts rules kept count → rules.starts ≤ count → Begins rules kept
  begins-all count search starts all =
      record {
        kept = search;
        closed =
            record {
              starts = λ number state cost below is. starts number state cost (omega (arith, below, all)) is;
              steps = λ place label below s. none-settled place label s;
            };
        none = ap length none;
      }

module _ {S : Type 0} (asked : Asked S) (count : ℕ) (heads : asked.heads ≡ replicate count Empty) where
  -- each slot's front is empty
  head-empty : (slot : ℕ) (head : Head) → slice_get asked.heads slot ≡ Some head → head ≡ Empty
  head-empty slot head is =
      let within : slot < length asked.heads = slice_get_within asked.heads slot head is in
      let below : slot < count = omega (arith, within, ap length heads ∙ length-replicate count Empty) in
      sym (get_or_from_slice_get asked.heads slot head head is) ∙ ap (λ (l : List Head). get_or l slot head) heads
      ∙ get_or-replicate count slot Empty head below

  -- there is such a front
  heads-empty : (slot : ℕ) (head : Head) → slice_get asked.heads slot ≡ Some head → IsHead asked head
  heads-empty slot head is = rw (head-empty slot head is) tt

  -- two slots share none
  fronts-empty : AreFronts asked
  fronts-empty =
      record {
        heads = heads-empty;
        apart = λ a b place is other. let e : Many place ≡ Empty = head-empty a (Many place) is in cc;
      }

  -- the covering test asks nothing
  none-asked : {A : Type 0} (slot : ℕ) (one : Member S) → IsAsked asked slot one → A
  none-asked slot one is =
      let e : front_at asked is.head ≡ [] = rw (head-empty slot is.head is.at) refl in
      none-in (front_at asked is.head) one e is.among

module _ {S : Type 0} (rules : Rules S) (kept : Books S) (fresh : IsFresh kept)
    (heads : kept.heads ≡ replicate rules.slots Empty) where
  -- the fronts of the slots
  index-fresh : IsIndex rules kept
  index-fresh =
      let asked : Asked S = record { labels = kept.labels; heads = kept.heads; many = kept.many } in
      record {
        slots = ap length heads ∙ length-replicate rules.slots Empty;
        fronts = fronts-empty asked rules.slots heads;
        floors = λ place blocks is. none-read kept.many place blocks fresh.many is;
        inside = λ slot one is. none-asked asked rules.slots heads slot one is;
        last = λ place label s. none-settled rules kept fresh.settled place label s;
      }

  -- lists in which nothing stands are those of a search
  pub search-fresh : IsSearch rules kept
  search-fresh =
      record {
        stands = stands-none rules kept fresh.settled;
        few = omega (arith, ap length fresh.labels);
        follows = λ number label is. none-read kept.labels number label fresh.labels is;
        queued = λ entry there. none-in kept.queue entry fresh.queue there;
        above = λ place label rank s. none-settled rules kept fresh.settled place label s;
        index = index-fresh;
      }

  -- none of the starts is to be taken care of so far
  pub starts-none : HasStarts rules kept 0
  starts-none number state cost below is = absurd (omega (arith, below))
