-- What callers of a hub need: how its acts follow one another, and which connections it holds.
use Rattle.std.proofs.Common.{◌≡◌, ◌==◌, ℕ, Bool, true, false, List, [], ◌∷◌, ◌++◌, length, Option, Some, None, ◌⊎◌, inl, inr, refl, sym, ◌∙◌, ap, subst, cond, arith, append_assoc, append-nil, length-append}
use Rattle.std.proofs.lemmas.Bool.{eq-eqb}
use Rattle.edge_io.specs.Acts.{Act, Listens, Gave, Took, Broke, Closed, Traffic, no_traffic, told, after_act, after_acts, after_own, after_event, is_end_of, OpensOnce}
use Rattle.edge_io.specs.Hub.{Tells, TellsWhereLive, IsLive, IsFreshAmong}
use Rattle.edge_io.specs.declared.event.Event.{Event}
use Rattle.edge_io.specs.declared.event.Event.TheVariants.{Opened, Bytes, Ended, Lost, Quiet, Over}
pub use Rattle.edge_io.proofs.ActLemmas.{after_acts-append, told-one, hangs_up-one}

-- ---- told acts

-- nothing is told where nothing happened
pub Tells-none : (acts : Option (List Act)) → Tells acts acts []
Tells-none None = tt
Tells-none (Some acts) = sym (append-nil acts)

-- acts and then more acts
pub Tells-more : (first mid last : Option (List Act)) (xs ys : List Act) → Tells first mid xs → Tells mid last ys →
    Tells first last (xs ++ ys)
Tells-more None None None xs ys before more = tt
Tells-more None None (Some last) xs ys before more = absurd more
Tells-more None (Some mid) last xs ys before more = absurd before
Tells-more (Some first) None last xs ys before more = absurd before
Tells-more (Some first) (Some mid) None xs ys before more = absurd more
Tells-more (Some first) (Some mid) (Some last) xs ys before more = more ∙ ap (λ (acts : List Act). acts ++ ys) before
    ∙ append_assoc first xs ys

-- an act on a connection that is held is told
pub Tells-live : (old new : Option (List Act)) (id : ℕ) (act : Act) → IsLive old id → TellsWhereLive old new id act →
    Tells old new (act ∷ [])
Tells-live None None id act live tells = tt
Tells-live None (Some new) id act live tells = absurd tells
Tells-live (Some old) new id act live tells = subst (λ (b : Bool). Tells (Some old) new (cond b (act ∷ []) [])) live tells

-- an act on a connection that isn't held is not told
pub Tells-gone : (old : List Act) (new : Option (List Act)) (id : ℕ) (act : Act) → (told id old).live ≡ false →
    TellsWhereLive (Some old) new id act → Tells (Some old) new []
Tells-gone old new id act gone tells = subst (λ (b : Bool). Tells (Some old) new (cond b (act ∷ []) [])) gone tells

-- ---- held connections

-- an act that doesn't end a connection leaves it held
live_act : (id : ℕ) (act : Act) (t : Traffic) → is_end_of id act ≡ false → t.live ≡ true → (after_act id t act).live ≡ true
live_act id (Listens address hangup) t stays live = live
live_act id (Gave (Opened at) bytes) t stays live =
    elim (at == id) as (λ b. (cond b (after_event t (Opened at) bytes) t).live ≡ true) [ true ↦ refl | false ↦ live ]
live_act id (Gave (Bytes at n) bytes) t stays live =
    elim (at == id) as (λ b. (cond b (after_event t (Bytes at n) bytes) t).live ≡ true) [ true ↦ live | false ↦ live ]
live_act id (Gave (Ended at) bytes) t stays live =
    elim (at == id) as (λ b. (cond b (after_event t (Ended at) bytes) t).live ≡ true) [ true ↦ live | false ↦ live ]
live_act id (Gave (Lost at) bytes) t stays live =
    subst (λ (b : Bool). (cond b (after_event t (Lost at) bytes) t).live ≡ true) (sym stays) live
live_act id (Gave Quiet bytes) t stays live = live
live_act id (Gave Over bytes) t stays live = live
live_act id (Took at bytes) t stays live =
    elim (at == id) as (λ b. (cond b (after_own t (Took at bytes)) t).live ≡ true) [ true ↦ live | false ↦ live ]
live_act id (Broke at) t stays live = subst (λ (b : Bool). (cond b (after_own t (Broke at)) t).live ≡ true) (sym stays) live
live_act id (Closed at) t stays live = subst (λ (b : Bool). (cond b (after_own t (Closed at)) t).live ≡ true) (sym stays) live

-- a connection stays held at an act that doesn't end it
pub IsLive-kept : (old new : Option (List Act)) (id : ℕ) (act : Act) → Tells old new (act ∷ []) → is_end_of id act ≡ false → IsLive old id →
    IsLive new id
IsLive-kept None None id act tells stays live = tt
IsLive-kept None (Some new) id act tells stays live = absurd tells
IsLive-kept (Some old) None id act tells stays live = tt
IsLive-kept (Some old) (Some new) id act tells stays live =
    ap (λ (acts : List Act). (told id acts).live) tells ∙ ap (λ (t : Traffic). t.live) (told-one id old act)
    ∙ live_act id act (told id old) stays live

-- a connection that an event opened is held
pub IsLive-opened : (old new : Option (List Act)) (id : ℕ) (bytes : List ℕ) → Tells old new (Gave (Opened id) bytes ∷ []) → IsLive new id
IsLive-opened None None id bytes tells = tt
IsLive-opened None (Some new) id bytes tells = absurd tells
IsLive-opened (Some old) None id bytes tells = tt
IsLive-opened (Some old) (Some new) id bytes tells =
    ap (λ (acts : List Act). (told id acts).live) tells
    ∙ ap (λ (t : Traffic). t.live) (told-one id old (Gave (Opened id) bytes))
    ∙ ap (λ (b : Bool). (cond b (after_event (told id old) (Opened id) bytes) (told id old)).live) (eq-eqb id id refl)

-- ---- openings

-- once opened, a connection stays so
opened_act : (id : ℕ) (act : Act) (t : Traffic) → t.opened ≡ true → (after_act id t act).opened ≡ true
opened_act id (Listens address hangup) t was = was
opened_act id (Gave (Opened at) bytes) t was =
    elim (at == id) as (λ b. (cond b (after_event t (Opened at) bytes) t).opened ≡ true) [ true ↦ refl | false ↦ was ]
opened_act id (Gave (Bytes at n) bytes) t was =
    elim (at == id) as (λ b. (cond b (after_event t (Bytes at n) bytes) t).opened ≡ true) [ true ↦ was | false ↦ was ]
opened_act id (Gave (Ended at) bytes) t was =
    elim (at == id) as (λ b. (cond b (after_event t (Ended at) bytes) t).opened ≡ true) [ true ↦ was | false ↦ was ]
opened_act id (Gave (Lost at) bytes) t was =
    elim (at == id) as (λ b. (cond b (after_event t (Lost at) bytes) t).opened ≡ true) [ true ↦ was | false ↦ was ]
opened_act id (Gave Quiet bytes) t was = was
opened_act id (Gave Over bytes) t was = was
opened_act id (Took at bytes) t was =
    elim (at == id) as (λ b. (cond b (after_own t (Took at bytes)) t).opened ≡ true) [ true ↦ was | false ↦ was ]
opened_act id (Broke at) t was = elim (at == id) as (λ b. (cond b (after_own t (Broke at)) t).opened ≡ true) [ true ↦ was | false ↦ was ]
opened_act id (Closed at) t was = elim (at == id) as (λ b. (cond b (after_own t (Closed at)) t).opened ≡ true) [ true ↦ was | false ↦ was ]

-- an act opens what was not opened, or leaves it, whatever came before
opened_by_act : (id : ℕ) (act : Act) (t u : Traffic) → (t.opened ≡ true → u.opened ≡ true) → (after_act id t act).opened ≡ true →
    (after_act id u act).opened ≡ true
opened_by_act id (Listens address hangup) t u less was = less was
opened_by_act id (Gave (Opened at) bytes) t u less was =
    (elim (at == id) as (λ b. (cond b (after_event t (Opened at) bytes) t).opened ≡ true →
    (cond b (after_event u (Opened at) bytes) u).opened ≡ true) [ true ↦ λ h. refl | false ↦ less ]) was
opened_by_act id (Gave (Bytes at n) bytes) t u less was =
    (elim (at == id) as (λ b. (cond b (after_event t (Bytes at n) bytes) t).opened ≡ true →
    (cond b (after_event u (Bytes at n) bytes) u).opened ≡ true) [ true ↦ less | false ↦ less ]) was
opened_by_act id (Gave (Ended at) bytes) t u less was =
    (elim (at == id) as (λ b. (cond b (after_event t (Ended at) bytes) t).opened ≡ true →
    (cond b (after_event u (Ended at) bytes) u).opened ≡ true) [ true ↦ less | false ↦ less ]) was
opened_by_act id (Gave (Lost at) bytes) t u less was =
    (elim (at == id) as (λ b. (cond b (after_event t (Lost at) bytes) t).opened ≡ true →
    (cond b (after_event u (Lost at) bytes) u).opened ≡ true) [ true ↦ less | false ↦ less ]) was
opened_by_act id (Gave Quiet bytes) t u less was = less was
opened_by_act id (Gave Over bytes) t u less was = less was
opened_by_act id (Took at bytes) t u less was =
    (elim (at == id) as (λ b. (cond b (after_own t (Took at bytes)) t).opened ≡ true →
    (cond b (after_own u (Took at bytes)) u).opened ≡ true) [ true ↦ less | false ↦ less ]) was
opened_by_act id (Broke at) t u less was =
    (elim (at == id) as (λ b. (cond b (after_own t (Broke at)) t).opened ≡ true →
    (cond b (after_own u (Broke at)) u).opened ≡ true) [ true ↦ less | false ↦ less ]) was
opened_by_act id (Closed at) t u less was =
    (elim (at == id) as (λ b. (cond b (after_own t (Closed at)) t).opened ≡ true →
    (cond b (after_own u (Closed at)) u).opened ≡ true) [ true ↦ less | false ↦ less ]) was

opened_by_acts : (id : ℕ) (acts : List Act) (t u : Traffic) → (t.opened ≡ true → u.opened ≡ true) → (after_acts id t acts).opened ≡ true →
    (after_acts id u acts).opened ≡ true
opened_by_acts id [] t u less was = less was
opened_by_acts id (act ∷ acts) t u less was =
    opened_by_acts id acts (after_act id t act) (after_act id u act) (opened_by_act id act t u less) was

-- what all acts didn't open, the later ones didn't
not_opened : (id : ℕ) (first acts : List Act) → (told id (first ++ acts)).opened ≡ false → (told id acts).opened ≡ false
not_opened id first acts never = by_cases (told id acts).opened refl
  where
    by_cases : (b : Bool) → (told id acts).opened ≡ b → (told id acts).opened ≡ false
    by_cases false is = is
    by_cases true is =
        (let more : (told id (first ++ acts)).opened ≡ true =
        ap (λ (t : Traffic). t.opened) (after_acts-append id no_traffic first acts)
        ∙ opened_by_acts id acts no_traffic (told id first) (λ none. (cc)) is in cc)

-- what is new among all acts is new among the later ones
pub IsFresh-later : (first acts : List Act) (event : Event) → IsFreshAmong (first ++ acts) event → IsFreshAmong acts event
IsFresh-later first acts (Opened id) fresh = not_opened id first acts fresh
IsFresh-later first acts (Bytes id n) fresh = tt
IsFresh-later first acts (Ended id) fresh = tt
IsFresh-later first acts (Lost id) fresh = tt
IsFresh-later first acts Quiet fresh = tt
IsFresh-later first acts Over fresh = tt

-- an act that opens nothing that was opened
abbrev pub IsFreshAct : List Act → Act → Type 0
IsFreshAct acts (Listens address hangup) = Unit {0}
IsFreshAct acts (Gave event bytes) = IsFreshAmong acts event
IsFreshAct acts (Took id bytes) = Unit {0}
IsFreshAct acts (Broke id) = Unit {0}
IsFreshAct acts (Closed id) = Unit {0}

-- where no act was, none opened anything twice
pub OpensOnce-none : OpensOnce []
OpensOnce-none [] after id bytes is = cc
OpensOnce-none (x ∷ before) after id bytes is = cc

-- a list that ends with an item, cut at an item: there, or before
cut : (xs : List Act) (x : Act) (before after : List Act) (y : Act) → xs ++ (x ∷ []) ≡ before ++ (y ∷ after) →
    ((before ≡ xs) × (x ≡ y)) ⊎ ((rest : List Act) × (xs ≡ before ++ (y ∷ rest)))
cut [] x [] after y is = inl (refl, cc)
cut [] x (b ∷ before) after y is = absurd (omega (arith, ap length is, length-append before (y ∷ after)))
cut (a ∷ xs) x [] after y is = inr (xs, cc)
cut (a ∷ xs) x (b ∷ before) after y is =
    elim (cut xs x before after y (cc)) [
      | inl here ↦ inl ((let same : before ≡ xs = here.0 in cc), here.1)
      | inr later ↦
          inr (later.0, (let same : xs ≡ before ++ (y ∷ later.0) = later.1 in cc))
    ]

-- one more act that opens nothing again
pub OpensOnce-more : (acts : List Act) (act : Act) → OpensOnce acts → IsFreshAct acts act → OpensOnce (acts ++ (act ∷ []))
OpensOnce-more acts act once fresh before after id bytes is =
    elim (cut acts act before after (Gave (Opened id) bytes) is) [
      | inl here ↦ rw here.0 (subst (IsFreshAct acts) here.1 fresh)
      | inr later ↦ once before later.0 id bytes later.1
    ]
