-- How a connection stands after a turn of work, and after it was served.
use Rattle.std.proofs.Common.{◌≡◌, ◌+◌, ◌≤◌, ℕ, List, [], ◌∷◌, ◌++◌, length, take, drop, min, Option, Some, None, refl, sym, ◌∙◌, ap, subst, arith, append-nil, append_assoc}
use Rattle.std.proofs.Math.Seq.{take-add, take-append_seam}
use Rattle.std.proofs.lemmas.Bool.{eq-eqb}
use Rattle.std.proofs.lemmas.List.{length-take, take_all, take-take}
use Rattle.edge_io.specs.Acts.{Act, Took, Broke, Closed, Traffic, told}
use Rattle.hall.proofs.CauseLemmas.{GetsOwn-more, HasCause-more, WasSilent-more}
use Rattle.hall.proofs.OneLemmas.{ServedOf, WorkedOf, goes, other, own_acts, rests}
use Rattle.hall.proofs.StandLemmas.{GetsOwn-held, Stands-apart, held_at}
use Rattle.hall.proofs.Status.{FitsPhase, IsAsked, IsHeldSo, Stands, held, gone}
use Rattle.hall.proofs.TrafficLemmas.{opened-more, told-own}
use Rattle.hall.specs.Allowed as rows
use Rattle.hall.specs.Allowed.{IsRowOf}
use Rattle.hall.specs.Causes.{memory, row}
use Rattle.hall.specs.Law.{GetsOwn, own, silent}
use Rattle.hall.specs.Sends.{Closes, IsDone, IsPiece, Sends, most_piece, sent_more}
use Rattle.hall.specs.Sends as sending
use Rattle.hall.specs.State.{site_in, Answered, Connection, Phase, Reading, Service, Silent, Waits}
use Rattle.hall.specs.Steps.{AskedBy, GoesOn}
use Rattle.hall.specs.Steps as steps
use Rattle.hall.specs.Turns.{Meets}
use Rattle.session_answers.specs.Rows.{IsQueryFrame}
use Rattle.session_answers.specs.Stored.{Stored}
use Rattle.route_engine.specs.declared.aim.Aim.{Aim}

-- ---- A turn of work

module _ (service : Service) (meets : Meets) (stored : List Stored) (id : ℕ) (acts : List Act) (c : Connection) where
  -- a frame that answers its query is the row of its request
  answer_row : (a : IsAsked meets stored id acts c.bytes c.ended c.before) (before : ℕ) (aim : Aim) (query frame : List ℕ) →
      AskedBy c before aim query → IsQueryFrame (site_in service) (take before stored) aim query frame → IsRowOf service a.state.stored c.bytes c.ended frame []
  answer_row a before aim query frame asked answers =
      let one : Some before ≡ Some (length a.state.stored) = sym asked.before_is ∙ a.counts in
      let count : before ≡ length a.state.stored = cc in
      let front : take before stored ≡ a.state.stored =
      ap (λ (n : ℕ). take n stored) count ∙ ap (λ (xs : List Stored). take (length a.state.stored) xs) a.grown
      ∙ take-append_seam a.state.stored a.rest in
      rows.query asked.verdict
      (subst (λ (q : List ℕ). IsQueryFrame (site_in service) a.state.stored aim q frame) asked.query_is
      (subst (λ (xs : List Stored). IsQueryFrame (site_in service) xs aim query frame) front answers))

  -- what is known of a connection whose search had a turn fits
  goes_fit : (now : Connection) → IsHeldSo service meets stored id acts c → GoesOn service stored c now →
      IsHeldSo service meets stored id acts now
  goes_fit now at (steps.more {due} waits) =
      let fits = subst (FitsPhase service meets stored id acts c) waits at.by_phase in
      record { opened = at.opened; unclosed = at.unclosed; by_phase = fits }
  goes_fit now at (steps.answers {due} {before} {aim} {query} {frame} waits asked within answers) =
      let fits = subst (FitsPhase service meets stored id acts c) waits at.by_phase in
      record {
        opened = at.opened;
        unclosed = at.unclosed;
        by_phase = (row fits.0.decided (answer_row fits.0 before aim query frame asked answers), fits.1);
      }
  goes_fit now at (steps.gives_up {due} waits) =
      let fits = subst (FitsPhase service meets stored id acts c) waits at.by_phase in
      record { opened = at.opened; unclosed = at.unclosed; by_phase = (memory fits.0.decided fits.0.some, fits.1) }

-- so it stands after a turn of work
pub work_stands : (service : Service) (meets : Meets) (stored : List Stored) (id : ℕ) (acts : List Act) (x y :
    Option Connection) → WorkedOf service stored x y → Stands service meets stored id acts x → Stands service meets stored id acts y
work_stands service meets stored id acts x y rests stands = stands
work_stands service meets stored id acts x y (goes {c} {now} is) stands =
    held (goes_fit service meets stored id acts c now (held_at service meets stored id acts (Some c) c refl stands) is)

-- ---- A send

-- the first bytes of a piece are the next ones of its frame
took_next : (frame piece : List ℕ) (sent n : ℕ) → IsPiece (Answered frame sent) piece → n ≤ length piece →
    take sent frame ++ take n piece ≡ take (sent + n) frame
took_next frame piece sent n is fits =
    let rest : List ℕ = drop sent frame in
    let long : length piece ≡ min most_piece (length rest) = ap length is.1 ∙ length-take most_piece rest in
    let less : n ≤ most_piece = omega arith in
    let same : take n piece ≡ take n rest = ap (λ (xs : List ℕ). take n xs) is.1 ∙ take-take n most_piece rest less in
    ap (λ (xs : List ℕ). take sent frame ++ xs) same ∙ sym (take-add sent n frame)

module _ (service : Service) (meets : Meets) (stored : List Stored) (id : ℕ) (acts : List Act) where
  took_phase : (c d : Connection) (more : List Act) (piece : List ℕ) (n : ℕ) (p : Phase) → IsPiece p piece → n ≤ length piece →
      (told id (acts ++ more)).sent ≡ (told id acts).sent ++ take n piece → FitsPhase service meets stored id acts c p →
      FitsPhase service meets stored id (acts ++ more) d (sent_more p n)
  took_phase c d more piece n Reading is within sent fits = absurd is
  took_phase c d more piece n (Waits due) is within sent fits = absurd is
  took_phase c d more piece n (Answered frame m) is within sent fits = (
    HasCause-more meets id acts more service frame fits.0,
    sent ∙ ap (λ (xs : List ℕ). xs ++ take n piece) fits.1 ∙ took_next frame piece m n is within,
  )
  took_phase c d more piece n Silent is within sent fits = absurd is

module _ (service : Service) (meets : Meets) (stored : List Stored) (id : ℕ) (acts : List Act) (c : Connection)
    (at : IsHeldSo service meets stored id acts c) where
  -- what was taken is a part of its own frame
  taken_fits : (piece : List ℕ) (n : ℕ) → IsPiece c.phase piece → n ≤ length piece →
      IsHeldSo service meets stored id (acts ++ (Took id (take n piece) ∷ [])) (record c { phase = sent_more c.phase n })
  taken_fits piece n is fits =
      let more : List Act = Took id (take n piece) ∷ [] in
      let d : Connection = record c { phase = sent_more c.phase n } in
      let t = told-own id acts (Took id (take n piece)) (eq-eqb id id refl) in
      record {
        opened = opened-more id acts more at.opened;
        unclosed = ap (λ (v : Traffic). v.closed) t ∙ at.unclosed;
        by_phase =
            took_phase service meets stored id acts c d more piece n c.phase is fits (ap (λ (v : Traffic). v.sent) t) at.by_phase;
      }

  -- it stands after a send
  sends_stand : (more : List Act) (left : Option Connection) → Sends id c more left → Stands service meets stored id (acts ++ more) left
  sends_stand more left (sending.nothing none) =
      subst (λ (xs : List Act). Stands service meets stored id xs (Some c)) (sym (append-nil acts)) (held at)
  sends_stand more left (sending.taken piece n is fits) = held (taken_fits piece n is fits)
  sends_stand more left (sending.broken piece is) =
      let t = told-own id acts (Broke id) (eq-eqb id id refl) in
      gone (opened-more id acts (Broke id ∷ []) at.opened)
      (GetsOwn-more meets id acts (Broke id ∷ []) service
      (record { sent = ap (λ (v : Traffic). v.sent) t; closed = ap (λ (v : Traffic). v.closed) t })
      (GetsOwn-held service meets stored id acts c at))

  -- ---- The close

  -- what a connection got that is done is its whole frame, or nothing since its peer ended before the first byte
  gets_whole : (p : Phase) → IsDone p → FitsPhase service meets stored id acts c p →
      GetsOwn service meets id (acts ++ (Closed id ∷ []))
  gets_whole Reading done fits = absurd done
  gets_whole (Waits due) done fits = absurd done
  gets_whole (Answered frame sent) done fits =
      let more : List Act = Closed id ∷ [] in
      let t = told-own id acts (Closed id) (eq-eqb id id refl) in
      let whole : (told id (acts ++ more)).sent ≡ frame = ap (λ (v : Traffic). v.sent) t ∙ fits.1
      ∙ take_all sent frame (omega (arith, done)) in
      own (record {
        frame = frame;
        cause = HasCause-more meets id acts more service frame fits.0;
        sent = ([], sym whole ∙ sym (append-nil (told id (acts ++ more)).sent));
        whole = λ h. whole;
      })
  gets_whole Silent done fits =
      let t = told-own id acts (Closed id) (eq-eqb id id refl) in
      silent (ap (λ (v : Traffic). v.sent) t ∙ fits.1) (WasSilent-more meets id acts (Closed id ∷ []) fits.0)

-- it stands after its close
closes_stand : (service : Service) (meets : Meets) (stored : List Stored) (id : ℕ) (acts more : List Act) (between left :
    Option Connection) → Stands service meets stored id acts between → Closes id between more left →
    Stands service meets stored id (acts ++ more) left
closes_stand service meets stored id acts more between left stands sending.gone =
    subst (λ (xs : List Act). Stands service meets stored id xs None) (sym (append-nil acts)) stands
closes_stand service meets stored id acts more between left stands (sending.stays {c} open_still) =
    subst (λ (xs : List Act). Stands service meets stored id xs (Some c)) (sym (append-nil acts)) stands
closes_stand service meets stored id acts more between left stands (sending.done {c} done) =
    let at = held_at service meets stored id acts (Some c) c refl stands in
    gone (opened-more id acts (Closed id ∷ []) at.opened) (gets_whole service meets stored id acts c at c.phase done at.by_phase)

-- it stands after it was served among others
pub served_stands : (service : Service) (meets : Meets) (stored : List Stored) (id : ℕ) (acts more : List Act) (x y :
    Option Connection) → Stands service meets stored id acts x → ServedOf id x more y → Stands service meets stored id (acts ++ more) y
served_stands service meets stored id acts more x y stands (other apart) = Stands-apart service meets stored id acts more None apart stands
served_stands service meets stored id acts more x y stands (own_acts {c} {left} before mine after first serves last is) =
    let at = held_at service meets stored id (acts ++ before) (Some c) c refl
    (Stands-apart service meets stored id acts before (Some c) first stands) in
    let sent = sends_stand service meets stored id (acts ++ before) c at serves.sends serves.between serves.sent in
    let closed = closes_stand service meets stored id ((acts ++ before) ++ serves.sends) serves.closes serves.between left sent
    serves.closed in
    let served : Stands service meets stored id ((acts ++ before) ++ mine) left =
    subst (λ (xs : List Act). Stands service meets stored id xs left)
    (append_assoc (acts ++ before) serves.sends serves.closes
    ∙ ap (λ (xs : List Act). (acts ++ before) ++ xs) (sym serves.acts_are)) closed in
    subst (λ (xs : List Act). Stands service meets stored id xs left)
    (append_assoc (acts ++ before) mine after ∙ append_assoc acts before (mine ++ after) ∙ ap (λ (xs : List Act). acts ++ xs) (sym is))
    (Stands-apart service meets stored id ((acts ++ before) ++ mine) after left last served)
