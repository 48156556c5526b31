-- Whom the hub holds while connections are served.
use Rattle.std.proofs.Common.{◌≡◌, ◌≢◌, ℕ, true, false, List, [], ◌∷◌, ◌++◌, Option, Some, None, inl, inr, refl, sym, ◌∙◌, ap, subst, append-nil, append_assoc}
use Rattle.std.proofs.lemmas.Bool.{cases_eq, ne_eqb}
use Rattle.edge_io.specs.Acts.{Act, is_end_of, told}
use Rattle.edge_io.specs.Hub.{HubSeen, IsLive, Tells}
use Rattle.edge_io.proofs.CallerLemmas.{IsLive-kept}
use Rattle.hall.proofs.ChangeLemmas.{changes_left}
use Rattle.hall.specs.Sends.{Closes, Sends, Serves}
use Rattle.hall.specs.Sends as sending
use Rattle.hall.specs.Serving.{AreLive}
use Rattle.hall.specs.State.{Connection, State, left_as}

-- none of these acts ends a connection
abbrev pub EndsNone : ℕ → List Act → Type 0
EndsNone id [] = Unit {0}
EndsNone id (act ∷ acts) = (is_end_of id act ≡ false) × EndsNone id acts

ends_more : (id : ℕ) (xs ys : List Act) → EndsNone id xs → EndsNone id ys → EndsNone id (xs ++ ys)
ends_more id [] ys first more = more
ends_more id (x ∷ xs) ys first more = (first.0, ends_more id xs ys first.1 more)

-- so the hub holds it still
pub live_more : (old new : Option (List Act)) (id : ℕ) (acts : List Act) → Tells old new acts → EndsNone id acts → IsLive old id →
    IsLive new id
live_more None None id acts tells ends live = tt
live_more None (Some new) id acts tells ends live = absurd tells
live_more (Some old) None id acts tells ends live = tt
live_more (Some old) (Some new) id [] tells ends live =
    subst (λ (xs : List Act). (told id xs).live ≡ true) (sym (tells ∙ append-nil old)) live
live_more (Some old) (Some new) id (act ∷ acts) tells ends live =
    live_more (Some (old ++ act ∷ [])) (Some new) id acts (tells ∙ sym (append_assoc old (act ∷ []) acts)) ends.1
    (IsLive-kept (Some old) (Some (old ++ act ∷ [])) id act refl ends.0 live)

sends_else : (id j : ℕ) (c : Connection) (acts : List Act) (left : Option Connection) → j ≢ id → Sends id c acts left → EndsNone j acts
sends_else id j c acts left ne (sending.nothing none) = tt
sends_else id j c acts left ne (sending.taken piece n is fits) = (refl, tt)
sends_else id j c acts left ne (sending.broken piece is) = (ne_eqb id j (λ e. ne (sym e)), tt)

closes_else : (id j : ℕ) (acts : List Act) (between left : Option Connection) → j ≢ id → Closes id between acts left → EndsNone j acts
closes_else id j acts between left ne sending.gone = tt
closes_else id j acts between left ne (sending.stays open_still) = tt
closes_else id j acts between left ne (sending.done all) = (ne_eqb id j (λ e. ne (sym e)), tt)

-- a connection that is held after a send wasn't ended by it
pub sends_own : (id : ℕ) (c d : Connection) (acts : List Act) (left : Option Connection) → left ≡ Some d → Sends id c acts left →
    EndsNone id acts
sends_own id c d acts left is (sending.nothing none) = tt
sends_own id c d acts left is (sending.taken piece n has fits) = (refl, tt)
sends_own id c d acts left is (sending.broken piece has) = (let clash : None ≡ Some d = is in absurd (cc))

closes_own : (id : ℕ) (d : Connection) (acts : List Act) (between left : Option Connection) → left ≡ Some d → Closes id between acts left →
    (between ≡ Some d) × EndsNone id acts
closes_own id d acts between left is sending.gone = (let clash : None ≡ Some d = is in absurd (cc))
closes_own id d acts between left is (sending.stays open_still) = (is, tt)
closes_own id d acts between left is (sending.done all) = (let clash : None ≡ Some d = is in absurd (cc))

serves_own : (id : ℕ) (c d : Connection) (acts : List Act) (left : Option Connection) → left ≡ Some d → Serves id c acts left →
    EndsNone id acts
serves_own id c d acts left is serves =
    let last = closes_own id d serves.closes serves.between left is serves.closed in
    subst (EndsNone id) (sym serves.acts_are)
    (ends_more id serves.sends serves.closes (sends_own id c d serves.sends serves.between last.0 serves.sent) last.1)

serves_else : (id j : ℕ) (c : Connection) (acts : List Act) (left : Option Connection) → j ≢ id → Serves id c acts left → EndsNone j acts
serves_else id j c acts left ne serves =
    subst (EndsNone j) (sym serves.acts_are)
    (ends_more j serves.sends serves.closes (sends_else id j c serves.sends serves.between ne serves.sent)
    (closes_else id j serves.closes serves.between left ne serves.closed))

-- the hub holds who is held after a connection was served
pub serves_live : (s : State) (id : ℕ) (c : Connection) (acts : List Act) (left : Option Connection) (old new : HubSeen) → AreLive s old →
    s.known id ≡ Some c → Serves id c acts left → Tells old.acts new.acts acts → AreLive (left_as s id left) new
serves_live s id c acts left old new live known serves tells j d has =
    let changes = changes_left s id left in
    elim (cases_eq j id) [
      | inl same ↦
          (let is : left ≡ Some d = sym changes.here ∙ sym (ap (left_as s id left).known same) ∙ has in
          subst (IsLive new.acts) (sym same)
          (live_more old.acts new.acts id acts tells (serves_own id c d acts left is serves) (live id c known)))
      | inr other ↦
          live_more old.acts new.acts j acts tells (serves_else id j c acts left other serves)
          (live j d (sym (changes.others j other) ∙ has))
    ]
