-- What the labels of a search that can be read are.
use Rattle.std.proofs.Common.{◌≡◌, ℕ, ◌<◌, ◌≤◌, List, [], ◌∷◌, ◌++◌, length, get_or, Option, Some, refl, ap, arith, sym, subst, length-append}
use Rattle.std.proofs.lemmas.Option.{slice_get_read, slice_get_within}
use Rattle.std.specs.List.{slice_get}
use Rattle.space_search.specs.Books.{Books, books, IsLabel, IsSettled, Follows, Reads, Stands}
use Rattle.space_search.specs.Rules.{Rules}
use Rattle.space_search.specs.Runs.{IsRun}
use Rattle.space_search.specs.Searches.{IsPhase, IsSearchOf}
use Rattle.space_search.specs.View.{Reached, Held, held, view, view_of, reached, reached_by, settled_of, goal_of, listed, labels_of, IsShown}
use Rattle.space_search.specs.declared.label.Label.{Label}
use Rattle.space_search.specs.declared.outcome.Outcome.TheVariants.{Found, NoWay, Budget}
use Rattle.space_search.specs.declared.phase.Phase.{Phase}
use Rattle.space_search.specs.declared.phase.Phase.TheVariants.{New, Running, Ended, Failed}
use Rattle.space_search.specs.declared.search.Search.{Search}
use Rattle.item_list.proofs.ListLemmas.{slice_get-append, slice_get-pushed, slice_get-same}
use Rattle.space_search.proofs.RunLemmas.{run-to}
use Rattle.space_search.proofs.ShownLemmas.{shown-count, shown-settled}

-- what stands at a settled label's number is that label
pub settled-at :
    {S : Type 0} (rules : Rules S) (kept : Books S) (place number : ℕ) (label : Label S) → Reads rules kept →
    place < length kept.settled → number ≡ get_or kept.settled place number →
    label ≡ get_or kept.labels number label → IsSettled kept place label
settled-at rules kept place number label reads below read reads_label =
    let at : slice_get kept.settled place ≡ Some number =
    slice_get_read kept.settled (length kept.settled) place number refl below read in
    let there = reads.settled_there place number at in
    record {
      number = number;
      at = at;
      there =
          slice_get_read kept.labels (length kept.labels) number label refl
          (slice_get_within kept.labels number there.0 there.1) reads_label;
    }

-- a settled label can be read at its place
pub settled-read :
    {S : Type 0} (rules : Rules S) (search : Search S) (number : ℕ) (label : Label S) → IsSearchOf rules search →
    IsSettled (books search.lists) number label →
    IsShown (view search) number (reached (settled_of (books search.lists)) label)
settled-read rules search number label of s =
    slice_get-append (settled_of (books search.lists)) (listed (view search).goal) number _
    (shown-settled rules (books search.lists) of.stands.reads number label s)

-- the goal that was found can be read after the settled labels
pub record ReadsGoal {S : Type 0} (rules : Rules S) (held : Held S) (number : ℕ) : Type 0 where
  pub label : Label S
  pub there : IsLabel held.kept held.found label
  pub shown : IsShown (view_of held) number (reached (settled_of held.kept) label)
  pub follows : Follows rules held.kept number label

-- the number can be read and isn't a settled label's
record Beyond {S : Type 0} (rules : Rules S) (held : Held S) (number : ℕ) : Type 0 where
  stands : Stands rules held.kept
  is : IsPhase rules held held.phase
  beyond : length held.kept.settled ≤ number
  within : number < length (labels_of (view_of held))

-- by the phase, such a number is that of the goal
goal-at :
    {S : Type 0} (rules : Rules S) (limit : ℕ) (kept : Books S) (found : ℕ) (phase : Phase) (number : ℕ) →
    Beyond rules (record { limit = limit; kept = kept; found = found; phase = phase }) number →
    ReadsGoal rules (record { limit = limit; kept = kept; found = found; phase = phase }) number
goal-at rules limit kept found New number b =
    absurd (omega (arith, b.beyond, b.within, length-append (settled_of kept) [], shown-count rules kept b.stands.reads))
goal-at rules limit kept found Running number b =
    absurd (omega (arith, b.beyond, b.within, length-append (settled_of kept) [], shown-count rules kept b.stands.reads))
goal-at rules limit kept found Failed number b =
    absurd (omega (arith, b.beyond, b.within, length-append (settled_of kept) [], shown-count rules kept b.stands.reads))
goal-at rules limit kept found (Ended NoWay) number b =
    absurd (omega (arith, b.beyond, b.within, length-append (settled_of kept) [], shown-count rules kept b.stands.reads))
goal-at rules limit kept found (Ended Budget) number b =
    absurd (omega (arith, b.beyond, b.within, length-append (settled_of kept) [], shown-count rules kept b.stands.reads))
goal-at {S} rules limit kept found (Ended (Found last)) number b =
    let label : Label S = b.is.1.0 in
    let held : Held S = record { limit = limit; kept = kept; found = found; phase = Ended (Found last) } in
    let goal : goal_of held (Ended (Found last)) ≡ Some (reached (settled_of kept) label) =
    ap (λ l. reached_by (settled_of kept) l) b.is.1.1 in
    let inside : number < length (settled_of kept ++ reached (settled_of kept) label ∷ []) =
    subst (λ (g : Option (Reached S)). number < length (settled_of kept ++ listed g)) goal b.within in
    let at : number ≡ length (settled_of kept) =
    omega (
      arith,
      b.beyond,
      inside,
      length-append (settled_of kept) (reached (settled_of kept) label ∷ []),
      shown-count rules kept
          b.stands.reads,
    ) in
    let numbered : last ≡ number = omega (arith, at, b.is.0.numbered) in
    record {
      label = label;
      there = b.is.1.1;
      shown =
          subst (λ (g : Option (Reached S)). slice_get (settled_of kept ++ listed g) number ≡ Some (reached (settled_of kept) label))
          (sym goal)
          (subst (λ n. slice_get (settled_of kept ++ reached (settled_of kept) label ∷ []) n ≡ Some (reached (settled_of kept) label))
          (sym at) (slice_get-pushed (settled_of kept) (reached (settled_of kept) label)));
      follows = subst (λ n. Follows rules kept n label) numbered b.is.1.2;
    }

-- a number that can be read and isn't a settled label's is the goal's
pub goal-read :
    {S : Type 0} (rules : Rules S) (search : Search S) (number : ℕ) → IsSearchOf rules search →
    length search.lists.settled.items ≤ number → number < length (labels_of (view search)) →
    ReadsGoal rules (held search) number
goal-read rules search number of beyond within =
    goal-at rules search.limit (books search.lists) search.found search.phase number
    (record { stands = of.stands; is = of.is_phase; beyond = beyond; within = within })

module _ {S : Type 0} (rules : Rules S) (search : Search S) (number : ℕ) (label : Label S) (of : IsSearchOf rules search)
    (beyond : length search.lists.settled.items ≤ number) (within : number < length (labels_of (view search)))
    (read : label ≡ get_or search.lists.labels.items search.found label) where
  -- the number is the goal's
  found : ReadsGoal rules (held search) number
  found = goal-read rules search number of beyond within

  -- what was read is the goal
  same : found.label ≡ label
  same =
      slice_get-same search.lists.labels.items search.found found.label label found.there
      (slice_get_read search.lists.labels.items (length search.lists.labels.items) search.found label refl
      (slice_get_within search.lists.labels.items search.found found.label found.there) read)

  -- what stands at the number that was found can be read
  pub goal-shown : IsShown (view search) number (reached (settled_of (books search.lists)) label)
  goal-shown = subst (λ (l : Label S). IsShown (view search) number (reached (settled_of (books search.lists)) l)) same found.shown

  -- and follows from a start or from a settled label
  pub goal-follows : Follows rules (books search.lists) number label
  goal-follows = subst (λ (l : Label S). Follows rules (books search.lists) number l) same found.follows

module _ {S : Type 0} (rules : Rules S) (search : Search S) (number : ℕ) (label : Label S) (of : IsSearchOf rules search)
    (follows : Follows rules (books search.lists) number label)
    (shown : IsShown (view search) number (reached (settled_of (books search.lists)) label)) where
  -- a label that can be read is reached by the choices that are shown of it
  pub run-read :
      (one : Reached S) (choices : List ℕ) → IsShown (view search) number one →
      choices ≡ (reached (settled_of (books search.lists)) label).choices → IsRun rules choices one.state one.cost
  run-read one choices is choices_are =
      let same : reached (settled_of (books search.lists)) label ≡ one = slice_get-same (labels_of (view search)) number _ one shown is in
      subst (λ (k : Reached S). IsRun rules choices k.state k.cost) same
      (subst (λ c. IsRun rules c label.state label.cost) (sym choices_are)
      (run-to rules (books search.lists) of.stands.reads number label follows).run)
