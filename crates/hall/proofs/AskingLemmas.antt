-- What a session asks for that waits.
use Rattle.std.proofs.Common.{◌≡◌, ◌≤◌, ℕ, suc, List, [], Option, Some, None, inl, inr, refl, sym, ◌∙◌, ap, subst, arith}
use Rattle.std.proofs.lemmas.Bool.{cases_eq}
use Rattle.edge_io.specs.Acts.{Act}
use Rattle.edge_io.specs.declared.event.Event.TheVariants as event
use Rattle.edge_io.specs.declared.event.Event.{Event}
use Rattle.hall.proofs.ChangeLemmas.{Changes, changes_gone, changes_now, changes_put}
use Rattle.hall.proofs.SoundInLemmas.{IsLeft, is_gone, is_same, is_more, left_serves}
use Rattle.hall.specs.Sends.{IsPiece, sent_more, ServesEach}
use Rattle.hall.specs.State.{Connection, Phase, Reading, Waits, Answered, Silent, Service, State, freed, left_as, put}
use Rattle.hall.specs.Steps as steps
use Rattle.hall.specs.Steps.{AsksFor, GoesOn, Hears, Loses, Opens, Step, Takes, Works, session, turned_away, with_bytes, with_end}
use Rattle.hall.specs.Sends.ServesEach.{none as none_served, more as more_served}
use Rattle.route_http.specs.Asked.{Asked}
use Rattle.session_answers.specs.Searches.{turns_for}
use Rattle.session_answers.specs.Stored.{Stored}
use Rattle.route_engine.specs.declared.aim.Aim.{Aim}

-- ---- What a session asks

-- a session asks for something, for which so many turns may be left
abbrev pub Asks : Service → Connection → ℕ → Type 0
Asks service c due = (aim : Aim) × (asked : Asked) × AsksFor service c aim asked × (due ≤ turns_for service.world aim asked)

-- each that waits does
abbrev pub AreAsking : Service → State → Type 0
AreAsking service s = (id : ℕ) (c : Connection) (due : ℕ) → s.known id ≡ Some c → c.phase ≡ Waits due → Asks service c due

module _ (service : Service) where
  -- so it is after one changes that asks where it waits
  asking_by : (s new : State) (id : ℕ) (x : Option Connection) (added : List Stored) → Changes s new id x added → AreAsking service s →
      ((c : Connection) (due : ℕ) → x ≡ Some c → c.phase ≡ Waits due → Asks service c due) → AreAsking service new
  asking_by s new id x added changes all mine j c due known waits =
      elim (cases_eq j id) [
        | inl same ↦ mine c due (sym changes.here ∙ sym (ap new.known same) ∙ known) waits
        | inr other ↦ all j c due (sym (changes.others j other) ∙ known) waits
      ]

  -- nobody is there, or is as far as this, and waits
  gone_asks : (c : Connection) (due : ℕ) → None ≡ Some c → c.phase ≡ Waits due → Asks service c due
  gone_asks c due is waits = cc

  idle_asks : (now c : Connection) (p : Phase) (due : ℕ) → now.phase ≡ p → (p ≡ Waits due → ⊥) → Some now ≡ Some c →
      c.phase ≡ Waits due → Asks service c due
  idle_asks now c p due is never same waits =
      let one : now ≡ c = cc in
      absurd (never (sym is ∙ ap (λ (d : Connection). d.phase) one ∙ waits))

  -- one that is this asks where this asks
  own_asks : (now c : Connection) (due : ℕ) → ((n : ℕ) → now.phase ≡ Waits n → Asks service now n) → Some now ≡ Some c →
      c.phase ≡ Waits due → Asks service c due
  own_asks now c due asks same waits =
      let one : now ≡ c = cc in
      subst (λ (d : Connection). Asks service d due) one (asks due (ap (λ (d : Connection). d.phase) one ∙ waits))

  -- a session that waits after its bytes asks for what its query spells
  takes_asks : (stored : List Stored) (old c now : Connection) (added : List Stored) (due : ℕ) → c.phase ≡ Reading →
      Takes service stored old c now added → now.phase ≡ Waits due → Asks service now due
  takes_asks stored old c now added due reads (steps.undecided is) waits =
      (let clash : Reading ≡ Waits due = sym reads ∙ waits in cc)
  takes_asks stored old c now added due reads (steps.silent is) waits = cc
  takes_asks stored old c now added due reads (steps.refused is) waits = cc
  takes_asks stored old c now added due reads (steps.upload is) waits = cc
  takes_asks stored old c now added due reads (steps.early is answers) waits = cc
  takes_asks stored old c now added due reads (steps.waits {aim} {span} {asked} is asks) waits =
      let same : turns_for service.world aim asked ≡ due = cc in
      (aim, asked, record { span = span; verdict = is; spells = asks.asks }, omega (arith, same))
  takes_asks stored old c now added due reads (steps.gives_up some which) waits = cc

  goes_asks : (stored : List Stored) (c now : Connection) (due : ℕ) →
      ((n : ℕ) → c.phase ≡ Waits n → Asks service c n) → GoesOn service stored c now → now.phase ≡ Waits due → Asks service now due
  goes_asks stored c now due before (steps.more {due = next} phase) waits =
      let same : next ≡ due = cc in
      let was = before (suc next) phase in (
        was.0,
        was.1,
        record { span = was.2.span; verdict = was.2.verdict; spells = was.2.spells },
        omega (arith, same, was.3),
      )
  goes_asks stored c now due before (steps.answers phase asked within answers) waits = cc
  goes_asks stored c now due before (steps.gives_up phase) waits = cc

  asking_opens : (s : State) (id : ℕ) (new : State) (shut : Option ℕ) → AreAsking service s → Opens s id new shut → AreAsking service new
  asking_opens s id new shut all (steps.again known) = all
  asking_opens s id new shut all (steps.held none room) =
      asking_by s new id (Some session) [] (changes_put s id (Some session)) all
      (λ c due. idle_asks session c Reading due refl (λ clash. cc))
  asking_opens s id new shut all (steps.away none many room) =
      asking_by s new id (Some turned_away) [] (changes_put s id (Some turned_away)) all
      (λ c due. idle_asks turned_away c (turned_away.phase) due refl (λ clash. cc))
  asking_opens s id new shut all (steps.full none many turned) = all

  asking_hears : (s : State) (id : ℕ) (heard : Connection → Connection) (new : State) →
      ((c : Connection) → (heard c).phase ≡ c.phase) → AreAsking service s → Hears service s id heard new → AreAsking service new
  asking_hears s id heard new alike all (steps.ignored unread) = all
  asking_hears s id heard new alike all (steps.kept {c} {now} {added} known reads takes) =
      asking_by s new id (Some now) added (changes_now s s.waiting id now added) all
      (λ d due. own_asks now d due
      (λ n. takes_asks s.stored c (heard c) now added n (alike c ∙ reads) takes))

  asking_loses : (s : State) (id : ℕ) (new : State) → AreAsking service s → Loses s id new → AreAsking service new
  asking_loses s id new all (steps.stranger none) = all
  asking_loses s id new all (steps.gone known) = asking_by s new id None [] (changes_gone s id) all gone_asks

  pub asking_step : (s new : State) (e : Event) (bytes : List ℕ) (shut : Option ℕ) → AreAsking service s →
      Step service s e bytes new shut → AreAsking service new
  asking_step s new (event.Opened id) bytes shut all step = asking_opens s id new shut all step
  asking_step s new (event.Bytes id n) bytes shut all step =
      asking_hears s id (with_bytes bytes) new (λ c. refl) all step.0
  asking_step s new (event.Ended id) bytes shut all step = asking_hears s id with_end new (λ c. refl) all step.0
  asking_step s new (event.Lost id) bytes shut all step = asking_loses s id new all step.0
  asking_step s new event.Quiet bytes shut all step = subst (AreAsking service) (sym step.0) all
  asking_step s new event.Over bytes shut all step = subst (AreAsking service) (sym step.0) all

  pub asking_works : (s new : State) → AreAsking service s → Works service s new → AreAsking service new
  asking_works s new all (steps.idle none) = all
  asking_works s new all (steps.turn {id} {rest} {c} {now} first known goes) =
      asking_by s new id (Some now) [] (changes_now s rest id now []) all
      (λ d due. own_asks now d due (λ n. goes_asks s.stored c now n (λ m. all id c m known) goes))

  -- who has a piece doesn't wait after more of it is sent
  more_waits : (p : Phase) (piece : List ℕ) (n due : ℕ) → IsPiece p piece → sent_more p n ≡ Waits due → ⊥
  more_waits Reading piece n due is waits = is
  more_waits (Waits m) piece n due is waits = is
  more_waits (Answered frame sent) piece n due is waits = cc
  more_waits Silent piece n due is waits = is

  asking_left : (s : State) (id : ℕ) (c : Connection) (left : Option Connection) → s.known id ≡ Some c → AreAsking service s → IsLeft c left →
      AreAsking service (left_as s id left)
  asking_left s id c left known all is_gone = asking_by s (freed s id) id None [] (changes_gone s id) all gone_asks
  asking_left s id c left known all is_same =
      asking_by s (put s id (Some c)) id (Some c) [] (changes_put s id (Some c)) all
      (λ d due. own_asks c d due (λ n. all id c n known))
  asking_left s id c left known all (is_more piece n is fits) =
      let now : Connection = record c { phase = sent_more c.phase n } in
      asking_by s (put s id (Some now)) id (Some now) [] (changes_put s id (Some now)) all
      (λ d due. idle_asks now d (sent_more c.phase n) due refl (more_waits c.phase piece n due is))

  pub asking_each : (s new : State) (ids : List ℕ) (acts : List Act) → AreAsking service s → ServesEach s ids acts new → AreAsking service new
  asking_each s new ids acts all none_served = all
  asking_each s new ids acts all (more_served {ids = first} {id} {acts = before} {own} {between} {c} {left} each known serves) =
      asking_left between id c left known (asking_each s between first before all each) (left_serves id c own left serves)
