-- What more acts change in what was told of one connection.
use Rattle.std.proofs.Common.{◌≡◌, ℕ, Bool, true, false, List, [], ◌∷◌, ◌++◌, refl, sym, ◌∙◌, ap, subst, cond, append_assoc, append-nil}
use Rattle.edge_io.specs.Acts.{Act, Listens, Gave, Took, Broke, Closed, Traffic, no_traffic, told, after_act, after_acts, after_own, after_event, is_act_on}
use Rattle.edge_io.specs.declared.event.Event.{Event}
use Rattle.edge_io.specs.declared.event.Event.TheVariants.{Opened, Bytes, Ended, Lost, Quiet, Over}
use Rattle.edge_io.proofs.ActLemmas.{after_acts-append, told-one}
use Rattle.hall.specs.Causes.{OpensThen}
use Rattle.hall.specs.Law.{IsFrontOf, EndsSilent}

-- ---- acts on other connections

-- acts that tell nothing of a connection
abbrev pub AreApart : ℕ → List Act → Type 0
AreApart id acts = (t : Traffic) → after_acts id t acts ≡ t

-- no act tells nothing
pub AreApart-none : (id : ℕ) → AreApart id []
AreApart-none id t = refl

-- an act on another connection tells nothing of this one
pub AreApart-one : (id : ℕ) (act : Act) → is_act_on id act ≡ false → AreApart id (act ∷ [])
AreApart-one id act off t = ap (λ (b : Bool). cond b (after_own t act) t) off

-- acts and more acts that tell nothing
pub AreApart-more : (id : ℕ) (xs ys : List Act) → AreApart id xs → AreApart id ys → AreApart id (xs ++ ys)
AreApart-more id xs ys first more t = after_acts-append id t xs ys ∙ ap (λ (u : Traffic). after_acts id u ys) (first t) ∙ more t

-- what was told stays where the acts tell nothing
pub told-apart : (id : ℕ) (acts more : List Act) → AreApart id more → told id (acts ++ more) ≡ told id acts
told-apart id acts more apart = after_acts-append id no_traffic acts more ∙ apart (told id acts)

-- an act on this connection
pub told-own : (id : ℕ) (acts : List Act) (act : Act) → is_act_on id act ≡ true →
    told id (acts ++ (act ∷ [])) ≡ after_own (told id acts) act
told-own id acts act on = told-one id acts act ∙ ap (λ (b : Bool). cond b (after_own (told id acts) act) (told id acts)) on

-- ---- what only grows

-- one more act comes to what it comes to on its own connection, or to nothing
pub by_act : (P : Traffic → Type 0) (id : ℕ) (t : Traffic) (act : Act) → P (after_own t act) → P t → P (after_act id t act)
by_act P id t act own other = elim (is_act_on id act) as (λ b. P (cond b (after_own t act) t)) [ true ↦ own | false ↦ other ]

-- more came, and an end stays
pub record Grows (t u : Traffic) : Type 0 where
  pub came : IsFrontOf t.came u.came
  pub ended : t.ended ≡ true → u.ended ≡ true

-- nothing new
pub Grows-same : (t : Traffic) → Grows t t
Grows-same t = record { came = ([], sym (append-nil t.came)); ended = λ h. h }

-- first this, then that
pub Grows-more : {t u v : Traffic} → Grows t u → Grows u v → Grows t v
Grows-more {t} {u} {v} first more = record {
  came = (
    first.came.0 ++ more.came.0,
    more.came.1 ∙ ap (λ (xs : List ℕ). xs ++ more.came.0) first.came.1
        ∙ append_assoc t.came first.came.0 more.came.0,
  );
  ended = λ h. more.ended (first.ended h);
}

grows_own : (t : Traffic) (act : Act) → Grows t (after_own t act)
grows_own t (Listens address hangup) = Grows-same t
grows_own t (Gave (Opened id) bytes) = record { came = (Grows-same t).came; ended = λ h. h }
grows_own t (Gave (Bytes id n) bytes) = record { came = (bytes, refl); ended = λ h. h }
grows_own t (Gave (Ended id) bytes) = record { came = (Grows-same t).came; ended = λ h. refl }
grows_own t (Gave (Lost id) bytes) = record { came = (Grows-same t).came; ended = λ h. h }
grows_own t (Gave Quiet bytes) = Grows-same t
grows_own t (Gave Over bytes) = Grows-same t
grows_own t (Took id bytes) = record { came = (Grows-same t).came; ended = λ h. h }
grows_own t (Broke id) = record { came = (Grows-same t).came; ended = λ h. h }
grows_own t (Closed id) = record { came = (Grows-same t).came; ended = λ h. h }

grows_acts : (id : ℕ) (t : Traffic) (acts : List Act) → Grows t (after_acts id t acts)
grows_acts id t [] = Grows-same t
grows_acts id t (act ∷ acts) = Grows-more (by_act (Grows t) id t act (grows_own t act) (Grows-same t))
    (grows_acts id (after_act id t act) acts)

-- what was told grows with more acts
pub told-grows : (id : ℕ) (acts more : List Act) → Grows (told id acts) (told id (acts ++ more))
told-grows id acts more = subst (Grows (told id acts)) (sym (after_acts-append id no_traffic acts more)) (grows_acts id (told id acts) more)

-- ---- what is sent and closed

-- nothing was sent, and nothing closed
pub record SendsNone (t u : Traffic) : Type 0 where
  pub sent : u.sent ≡ t.sent
  pub closed : u.closed ≡ t.closed

-- nothing new
pub SendsNone-same : (t : Traffic) → SendsNone t t
SendsNone-same t = record { sent = refl; closed = refl }

none_by_event : (t : Traffic) (event : Event) (bytes : List ℕ) → SendsNone t (after_event t event bytes)
none_by_event t (Opened id) bytes = record { sent = refl; closed = refl }
none_by_event t (Bytes id n) bytes = record { sent = refl; closed = refl }
none_by_event t (Ended id) bytes = record { sent = refl; closed = refl }
none_by_event t (Lost id) bytes = record { sent = refl; closed = refl }
none_by_event t Quiet bytes = SendsNone-same t
none_by_event t Over bytes = SendsNone-same t

-- an event sends and closes nothing
pub SendsNone-event : (id : ℕ) (acts : List Act) (event : Event) (bytes : List ℕ) →
    SendsNone (told id acts) (told id (acts ++ (Gave event bytes ∷ [])))
SendsNone-event id acts event bytes =
    subst (SendsNone (told id acts)) (sym (told-one id acts (Gave event bytes)))
    (by_act (SendsNone (told id acts)) id (told id acts) (Gave event bytes) (none_by_event (told id acts) event bytes)
    (SendsNone-same (told id acts)))

-- acts that tell nothing send and close nothing
pub SendsNone-apart : (id : ℕ) (acts more : List Act) → AreApart id more → SendsNone (told id acts) (told id (acts ++ more))
SendsNone-apart id acts more apart = subst (SendsNone (told id acts)) (sym (told-apart id acts more apart)) (SendsNone-same (told id acts))

-- ---- what was opened

opened_by_own : (t : Traffic) (act : Act) → t.opened ≡ true → (after_own t act).opened ≡ true
opened_by_own t (Listens address hangup) was = was
opened_by_own t (Gave (Opened id) bytes) was = refl
opened_by_own t (Gave (Bytes id n) bytes) was = was
opened_by_own t (Gave (Ended id) bytes) was = was
opened_by_own t (Gave (Lost id) bytes) was = was
opened_by_own t (Gave Quiet bytes) was = was
opened_by_own t (Gave Over bytes) was = was
opened_by_own t (Took id bytes) was = was
opened_by_own t (Broke id) was = was
opened_by_own t (Closed id) was = was

opened_by_acts : (id : ℕ) (t : Traffic) (acts : List Act) → t.opened ≡ true → (after_acts id t acts).opened ≡ true
opened_by_acts id t [] was = was
opened_by_acts id t (act ∷ acts) was =
    opened_by_acts id (after_act id t act) acts
    (by_act (λ (u : Traffic). u.opened ≡ true) id t act (opened_by_own t act was) was)

-- what was opened stays so
pub opened-more : (id : ℕ) (acts more : List Act) → (told id acts).opened ≡ true → (told id (acts ++ more)).opened ≡ true
opened-more id acts more was = ap (λ (t : Traffic). t.opened) (after_acts-append id no_traffic acts more)
    ∙ opened_by_acts id (told id acts) more was

-- ---- the acts since an opening

-- more acts come behind those since an opening
abbrev pub OpensThen-more : (id : ℕ) (acts since more : List Act) → OpensThen id acts since → OpensThen id (acts ++ more) (since ++ more)
OpensThen-more id acts since more opening = record {
  before = opening.before;
  bytes = opening.bytes;
  acts_are = ap (λ (xs : List Act). xs ++ more) opening.acts_are
      ∙ append_assoc opening.before (Gave (Opened id) opening.bytes ∷ since) more;
}

-- a peer that ended before any byte came still did
pub EndsSilent-more : (id : ℕ) (acts more : List Act) → EndsSilent id acts → EndsSilent id (acts ++ more)
EndsSilent-more id acts more silent = record {
  before = silent.before;
  bytes = silent.bytes;
  after = silent.after ++ more;
  acts_are = ap (λ (xs : List Act). xs ++ more) silent.acts_are
      ∙ append_assoc silent.before (Gave (Ended id) silent.bytes ∷ silent.after) more;
  none_came = silent.none_came;
}
