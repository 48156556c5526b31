-- No more than 64 sessions are held, whatever changes; and no more wait.
use Rattle.std.proofs.Common.{◌≡◌, ◌+◌, ◌≤◌, ℕ, Bool, false, cond, List, [], ◌∷◌, length, Option, Some, None, inl, inr, refl, sym, ◌∙◌, ap, subst, arith}
use Rattle.std.proofs.lemmas.Bool.{cases_eq}
use Rattle.std.specs.Bool.{beq}
use Rattle.edge_io.specs.Acts.{Act}
use Rattle.edge_io.specs.declared.event.Event.TheVariants as event
use Rattle.edge_io.specs.declared.event.Event.{Event}
use Rattle.hall.proofs.ChangeLemmas.{Changes, changes_gone, changes_now, changes_put}
use Rattle.hall.proofs.CountLemmas.{count_first, count_taken}
use Rattle.hall.proofs.IdLemmas.{among_kept, among_without, different_without}
use Rattle.hall.proofs.SoundInLemmas.{IsLeft, is_gone, is_same, is_more, left_serves, waits_sound}
use Rattle.hall.specs.Held.{AreDifferent, AreFew, Counts, IsAmong, count_among, count_at, most_sessions}
use Rattle.hall.specs.Sends.{sent_more, ServesEach}
use Rattle.hall.specs.Sound.{IsSound}
use Rattle.hall.specs.State.{Connection, Service, State, empty_hall, left_as, put, without}
use Rattle.hall.specs.Steps as steps
use Rattle.hall.specs.Steps.{GoesOn, Hears, Loses, Opens, Step, Takes, Works, session, turned_away, with_bytes, with_end}
use Rattle.hall.specs.Sends.ServesEach.{none as none_served, more as more_served}
use Rattle.session_answers.specs.Stored.{Stored}

-- ---- One changes

-- ids count the same by what is known alike
count_alike : (f g : ℕ → Option Connection) (away : Bool) (ids : List ℕ) →
    ((j : ℕ) → IsAmong j ids → count_at (f j) away 0 ≡ count_at (g j) away 0) → count_among f away ids ≡ count_among g away ids
count_alike f g away [] alike = refl
count_alike f g away (id ∷ ids) alike =
    omega (
      arith,
      count_first f away id ids,
      count_first g away id ids,
      alike id (inl refl),
      count_alike f g away ids (λ j is. alike j (inr is)),
    )

module _ (s new : State) (id : ℕ) (away : Bool) (added : List Stored) where
  -- as many are held after one changes that is turned away where it was
  few_now : (c now : Connection) → Changes s new id (Some now) added → s.known id ≡ Some c → now.away ≡ c.away → AreFew s away →
      AreFew new away
  few_now c now changes was alike few =
      let all = few.1.all in
      let ids = few.1.ids in (
        few.0,
        record {
          ids = ids;
          all = record {
            once = all.once;
            held = λ j is. elim (cases_eq j id) [
              | inl same ↦ (now, ap new.known same ∙ changes.here)
              | inr other ↦ (let held = all.held j is in (held.0, changes.others j other ∙ held.1))
            ];
            whole = λ j d known. elim (cases_eq j id) [
              | inl same ↦ all.whole j c (ap s.known same ∙ was)
              | inr other ↦ all.whole j d (sym (changes.others j other) ∙ known)
            ];
          };
          is = few.1.is
              ∙ count_alike s.known new.known away ids (λ j is. elim (cases_eq j id) [
                | inl same ↦
                    ap (λ (x : Option Connection). count_at x away 0) (ap s.known same ∙ was)
                    ∙ ap (λ (b : Bool). cond (beq b away) 1 0) (sym alike)
                    ∙ ap (λ (x : Option Connection). count_at x away 0) (sym (ap new.known same ∙ changes.here))
                | inr other ↦ ap (λ (x : Option Connection). count_at x away 0) (sym (changes.others j other))
              ]);
        },
        few.2,
      )

  -- no more are held after one is gone
  few_gone : (c : Connection) → Changes s new id None added → s.known id ≡ Some c → AreFew s away → AreFew new away
  few_gone c changes was few =
      let all = few.1.all in
      let ids = few.1.ids in
      let rest = without id ids in
      let same = count_alike s.known new.known away rest
      (λ j is. ap (λ (x : Option Connection). count_at x away 0) (sym (changes.others j (among_without id j ids is).0))) in (
        count_among new.known away rest,
        record {
          ids = rest;
          all = record {
            once = different_without id ids all.once;
            held = λ j is.
                let before = among_without id j ids is in
                let held = all.held j before.1 in
                (held.0, changes.others j before.0 ∙ held.1);
            whole = λ j d known. elim (cases_eq j id) [
              | inl here ↦ (let clash : Some d ≡ None = sym known ∙ ap new.known here ∙ changes.here in absurd (cc))
              | inr other ↦ among_kept id j ids other (all.whole j d (sym (changes.others j other) ∙ known))
            ];
          };
          is = refl;
        },
        omega (arith, few.1.is, few.2, count_taken s.known away id ids all.once (all.whole id c was), same),
      )

  -- one more is held at most after one opens
  few_opened : (now : Connection) (n : ℕ) → Changes s new id (Some now) added → s.known id ≡ None → Counts s away n →
      n + count_at (Some now) away 0 ≤ most_sessions → AreFew new away
  few_opened now n changes was counts fits =
      let all = counts.all in
      let ids = counts.ids in
      let never : IsAmong id ids → ⊥ =
      λ among. let held = all.held id among in let clash : None ≡ Some held.0 = sym was ∙ held.1 in cc in
      let same = count_alike s.known new.known away ids
      (λ j is. ap (λ (x : Option Connection). count_at x away 0)
      (sym (changes.others j (λ e. never (subst (λ (i : ℕ). IsAmong i ids) e is))))) in (
        count_among new.known away (id ∷ ids),
        record {
          ids = id ∷ ids;
          all = record {
            once = (never, all.once);
            held = λ j is. elim is [
              | inl here ↦ (now, ap new.known (sym here) ∙ changes.here)
              | inr later ↦
                  (let held = all.held j later in
                  (held.0, changes.others j (λ e. never (subst (λ (i : ℕ). IsAmong i ids) e later)) ∙ held.1))
            ];
            whole = λ j d known. elim (cases_eq j id) [
              | inl here ↦ inl (sym here)
              | inr other ↦ inr (all.whole j d (sym (changes.others j other) ∙ known))
            ];
          };
          is = refl;
        },
        omega (
          arith,
          fits,
          counts.is,
          same,
          count_first new.known away id ids,
          ap (λ (x : Option Connection). count_at x away 0) changes.here,
        ),
      )

-- ---- A turn

-- whatever a session comes to, it is turned away where it was
takes_away : (service : Service) (stored : List Stored) (old c now : Connection) (added : List Stored) → c.away ≡ old.away →
    Takes service stored old c now added → now.away ≡ old.away
takes_away service stored old c now added alike (steps.undecided is) = alike
takes_away service stored old c now added alike (steps.silent is) = alike
takes_away service stored old c now added alike (steps.refused is) = alike
takes_away service stored old c now added alike (steps.upload is) = alike
takes_away service stored old c now added alike (steps.early is answers) = alike
takes_away service stored old c now added alike (steps.waits is searched) = alike
takes_away service stored old c now added alike (steps.gives_up {kept} some which) =
    elim which [
      | inl first ↦ ap (λ (d : Connection). d.away) first
      | inr (inl second) ↦ ap (λ (d : Connection). d.away) second ∙ alike
      | inr (inr third) ↦ ap (λ (d : Connection). d.away) third ∙ alike
    ]

goes_away : (service : Service) (stored : List Stored) (c now : Connection) → GoesOn service stored c now → now.away ≡ c.away
goes_away service stored c now (steps.more waits) = refl
goes_away service stored c now (steps.answers waits asked within answers) = refl
goes_away service stored c now (steps.gives_up waits) = refl

few_opens : (s : State) (id : ℕ) (new : State) (shut : Option ℕ) → AreFew s false → Opens s id new shut → AreFew new false
few_opens s id new shut few (steps.again known) = few
few_opens s id new shut few (steps.held none room) =
    few_opened s new id false [] session room.0 (changes_put s id (Some session)) none room.1 (omega (arith, room.2))
few_opens s id new shut few (steps.away none many room) =
    few_opened s new id false [] turned_away few.0 (changes_put s id (Some turned_away)) none few.1 (omega (arith, few.2))
few_opens s id new shut few (steps.full none many turned) = few

few_hears : (service : Service) (s : State) (id : ℕ) (heard : Connection → Connection) (new : State) →
    ((c : Connection) → (heard c).away ≡ c.away) → AreFew s false → Hears service s id heard new → AreFew new false
few_hears service s id heard new alike few (steps.ignored unread) = few
few_hears service s id heard new alike few (steps.kept {c} {now} {added} known reads takes) =
    few_now s new id false added c now (changes_now s s.waiting id now added) known
    (takes_away service s.stored c (heard c) now added (alike c) takes) few

few_loses : (s : State) (id : ℕ) (new : State) → AreFew s false → Loses s id new → AreFew new false
few_loses s id new few (steps.stranger none) = few
few_loses s id new few (steps.gone {c} known) = few_gone s new id false [] c (changes_gone s id) known few

pub few_step : (service : Service) (s new : State) (event : Event) (bytes : List ℕ) (shut : Option ℕ) → AreFew s false →
    Step service s event bytes new shut → AreFew new false
few_step service s new (event.Opened id) bytes shut few step = few_opens s id new shut few step
few_step service s new (event.Bytes id n) bytes shut few step = few_hears service s id (with_bytes bytes) new (λ c. refl) few step.0
few_step service s new (event.Ended id) bytes shut few step = few_hears service s id with_end new (λ c. refl) few step.0
few_step service s new (event.Lost id) bytes shut few step = few_loses s id new few step.0
few_step service s new event.Quiet bytes shut few step = subst (λ (x : State). AreFew x false) (sym step.0) few
few_step service s new event.Over bytes shut few step = subst (λ (x : State). AreFew x false) (sym step.0) few

pub few_works : (service : Service) (s new : State) → AreFew s false → Works service s new → AreFew new false
few_works service s new few (steps.idle none) = few
few_works service s new few (steps.turn {id} {rest} {c} {now} first known goes) =
    few_now s new id false [] c now (changes_now s rest id now []) known (goes_away service s.stored c now goes) few

few_left : (s : State) (id : ℕ) (c : Connection) (left : Option Connection) → s.known id ≡ Some c → AreFew s false → IsLeft c left →
    AreFew (left_as s id left) false
few_left s id c left known few is_gone = few_gone s (left_as s id None) id false [] c (changes_gone s id) known few
few_left s id c left known few is_same = few_now s (put s id (Some c)) id false [] c c (changes_put s id (Some c)) known refl few
few_left s id c left known few (is_more piece n is fits) =
    let now : Connection = record c { phase = sent_more c.phase n } in
    few_now s (put s id (Some now)) id false [] c now (changes_put s id (Some now)) known refl few

pub few_each : (s new : State) (ids : List ℕ) (acts : List Act) → AreFew s false → ServesEach s ids acts new → AreFew new false
few_each s new ids acts few none_served = few
few_each s new ids acts few (more_served {ids = first} {id} {acts = before} {own} {between} {c} {left} each known serves) =
    few_left between id c left known (few_each s between first before few each) (left_serves id c own left serves)

-- a hall without connections has none
pub few_empty : (given : List Stored) → AreFew (empty_hall given) false
few_empty given = (
  0,
  record {
    ids = [];
    all = record {
      once = tt;
      held = λ id among. absurd among;
      whole = λ id c known. (let clash : None ≡ Some c = known in absurd (cc));
    };
    is = refl;
  },
  omega arith,
)

-- ---- Those that wait

-- different ids that each count are no more than all that count
count_most : (known : ℕ → Option Connection) (xs ids : List ℕ) → AreDifferent xs → AreDifferent ids →
    ((j : ℕ) → IsAmong j xs → IsAmong j ids) → ((j : ℕ) → IsAmong j xs → count_at (known j) false 0 ≡ 1) →
    length xs ≤ count_among known false ids
count_most known [] ids once all there counts = omega arith
count_most known (x ∷ xs) ids once all there counts =
    let rest = count_most known xs (without x ids) once.1 (different_without x ids all)
    (λ j is. among_kept x j ids (λ e. once.0 (subst (λ (i : ℕ). IsAmong i xs) e is)) (there j (inr is)))
    (λ j is. counts j (inr is)) in
    omega (arith, rest, count_taken known false x ids all (there x (inl refl)), counts x (inl refl))

-- no more sessions wait than may be held
pub few_wait : (service : Service) (s : State) → IsSound service s → AreFew s false → length s.waiting ≤ most_sessions
few_wait service s sound few =
    let all = few.1.all in
    let most = count_most s.known s.waiting few.1.ids sound.queued.once all.once
    (λ j is. let waits = sound.queued.waits j is in all.whole j waits.c waits.known)
    (λ j is.
    let waits = sound.queued.waits j is in
    ap (λ (x : Option Connection). count_at x false 0) waits.known
    ∙ ap (λ (b : Bool). cond (beq b false) 1 0)
    (waits_sound service s.stored waits.c waits.c.phase waits.due (sound.sound j waits.c waits.known) waits.phase)) in
    omega (arith, most, few.1.is, few.2)
