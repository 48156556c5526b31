-- What is true of one connection stays so, whatever it comes to.
use Rattle.std.proofs.Common.{◌≡◌, ◌⊎◌, ◌≤◌, ℕ, suc, ◌+◌, false, List, [], ◌++◌, length, take, drop, Option, Some, None, inl, inr, refl, sym, ◌∙◌, ap, subst, arith, length-drop}
use Rattle.std.proofs.Math.Seq.{take-length}
use Rattle.std.proofs.lemmas.List.{length-take}
use Rattle.edge_io.specs.Acts.{Act}
use Rattle.hall.proofs.AllowedLemmas.{IsAllowed-at, IsAllowed-more}
use Rattle.hall.proofs.VerdictLemmas.{undecided_goes_on}
use Rattle.hall.specs.Allowed as rows
use Rattle.hall.specs.Allowed.{IsAllowed, IsRowOf}
use Rattle.hall.specs.Sends as sending
use Rattle.hall.specs.Sends.{Closes, IsPiece, Sends, Serves, most_piece, sent_more}
use Rattle.hall.specs.Sound.{IsSoundIn}
use Rattle.hall.specs.State.{site_in, Connection, Phase, Reading, Waits, Answered, Silent, Service, waits_as, with_frame}
use Rattle.hall.specs.Steps as steps
use Rattle.hall.specs.Steps.{GoesOn, Takes, memory_frame, uploaded, whole_in}
use Rattle.session_answers.specs.Frames.{refusal_frame}
use Rattle.session_answers.specs.Rows as queries
use Rattle.session_answers.specs.Rows.{IsQueryFrame}
use Rattle.session_answers.specs.Stored.{Stored}
use Rattle.session_answers.specs.Verdicts.{part}

-- ---- One connection

-- what is known of a connection by how far it is
pub read_sound : (service : Service) (stored : List Stored) (c : Connection) (p : Phase) → IsSoundIn service stored c p → p ≡ Reading →
    (c.away ≡ false) × (c.ended ≡ false)
read_sound service stored c Reading is reads = is
read_sound service stored c (Waits due) is reads = cc
read_sound service stored c (Answered frame sent) is reads = cc
read_sound service stored c Silent is reads = cc

pub waits_sound : (service : Service) (stored : List Stored) (c : Connection) (p : Phase) (due : ℕ) → IsSoundIn service stored c p →
    p ≡ Waits due → c.away ≡ false
waits_sound service stored c Reading due is waits = cc
waits_sound service stored c (Waits n) due is waits = is
waits_sound service stored c (Answered frame sent) due is waits = cc
waits_sound service stored c Silent due is waits = cc

-- a connection stays sound while more profiles are stored
pub sound_more : (service : Service) (stored more : List Stored) (c : Connection) (p : Phase) → IsSoundIn service stored c p →
    IsSoundIn service (stored ++ more) c p
sound_more service stored more c Reading is = is
sound_more service stored more c (Waits due) is = is
sound_more service stored more c (Answered frame sent) is = (IsAllowed-more service stored more c frame is.0, is.1)
sound_more service stored more c Silent is = is

-- a frame of which nothing is sent
frame_sound : (service : Service) (stored more : List Stored) (c : Connection) (frame : List ℕ) → IsAllowed service stored c frame →
    IsSoundIn service (stored ++ more) (with_frame c frame) (Answered frame 0)
frame_sound service stored more c frame is =
    (IsAllowed-at service (stored ++ more) c (Answered frame 0) frame (IsAllowed-more service stored more c frame is), omega arith)

-- what a session comes to by what is fixed for it is sound
module _ (service : Service) (stored : List Stored) (old c : Connection) (was : old.away ≡ false) (held : c.away ≡ false) (reads :
    c.phase ≡ Reading) where
  given_up : (kept : Connection) → (kept ≡ old) ⊎ ((kept ≡ c) ⊎ (kept ≡ whole_in stored c)) → kept.away ≡ false
  given_up kept (inl is) = ap (λ (d : Connection). d.away) is ∙ was
  given_up kept (inr (inl is)) = ap (λ (d : Connection). d.away) is ∙ held
  given_up kept (inr (inr is)) = ap (λ (d : Connection). d.away) is ∙ held

  -- a row over what is stored now is allowed where the request is whole, whatever is stored besides
  row_sound : (frame : List ℕ) (added more : List Stored) → IsRowOf service stored c.bytes c.ended frame more →
      IsSoundIn service (stored ++ added) (with_frame (whole_in stored c) frame) (Answered frame 0)
  row_sound frame added more row =
      frame_sound service stored added (whole_in stored c) frame
      (rows.whole {before = length stored} held refl (omega arith)
      (subst (λ (l : List Stored). IsRowOf service l c.bytes c.ended frame more) (sym (take-length stored)) row))

  pub takes_sound : (now : Connection) (added : List Stored) → Takes service stored old c now added →
      IsSoundIn service (stored ++ added) now now.phase
  takes_sound now added (steps.undecided is) =
      subst (λ (p : Phase). IsSoundIn service (stored ++ []) c p) (sym reads) (held, undecided_goes_on c.bytes c.ended is)
  takes_sound now added (steps.silent is) = tt
  takes_sound now added (steps.refused {r} is) = frame_sound service stored [] c (refusal_frame r) (rows.refused held is)
  takes_sound now added (steps.upload {span} is) =
      let u = uploaded service stored (part c.bytes span) in row_sound u.frame u.added u.added (rows.upload is)
  takes_sound now added (steps.early {span} {frame} is answers) = row_sound frame [] [] (rows.query is (queries.before answers))
  takes_sound now added (steps.waits {span} is searched) = held
  takes_sound now added (steps.gives_up {kept} some which) =
      frame_sound service stored [] kept memory_frame (rows.memory (given_up kept which))

-- so is what it comes to by a turn of its search
pub goes_sound : (service : Service) (stored : List Stored) (c now : Connection) → c.away ≡ false → GoesOn service stored c now →
    IsSoundIn service (stored ++ []) now now.phase
goes_sound service stored c now held (steps.more waits) = held
goes_sound service stored c now held (steps.answers {due} {before} {aim} {query} {frame} waits asked within answers) =
    frame_sound service stored [] c frame
    (rows.whole {before = before} held asked.before_is within
    (rows.query asked.verdict
    (subst (λ (q : List ℕ). IsQueryFrame (site_in service) (take before stored) aim q frame) asked.query_is answers)))
goes_sound service stored c now held (steps.gives_up waits) = frame_sound service stored [] c memory_frame (rows.memory held)

pub goes_waits : (service : Service) (stored : List Stored) (c now : Connection) → GoesOn service stored c now →
    (due : ℕ) × (c.phase ≡ Waits due)
goes_waits service stored c now (steps.more {due} waits) = (suc due, waits)
goes_waits service stored c now (steps.answers {due} waits asked within answers) = (due, waits)
goes_waits service stored c now (steps.gives_up {due} waits) = (due, waits)

-- ---- What is left of a connection that is served

-- it is gone, as it was, or so many more bytes of it are sent
pub data IsLeft (c : Connection) : Option Connection → Type 0 where
  is_gone : IsLeft c None
  is_same : IsLeft c (Some c)
  is_more : (piece : List ℕ) (n : ℕ) → IsPiece c.phase piece → n ≤ length piece → IsLeft c (Some (record c { phase = sent_more c.phase n }))

pub left_sends : (id : ℕ) (c : Connection) (acts : List Act) (left : Option Connection) → Sends id c acts left → IsLeft c left
left_sends id c acts left (sending.nothing none) = is_same
left_sends id c acts left (sending.taken piece n is fits) = is_more piece n is fits
left_sends id c acts left (sending.broken piece is) = is_gone

left_closes : (id : ℕ) (c : Connection) (acts : List Act) (between left : Option Connection) → IsLeft c between →
    Closes id between acts left → IsLeft c left
left_closes id c acts between left is sending.gone = is_gone
left_closes id c acts between left is (sending.stays open_still) = is
left_closes id c acts between left is (sending.done all) = is_gone

pub left_serves : (id : ℕ) (c : Connection) (acts : List Act) (left : Option Connection) → Serves id c acts left → IsLeft c left
left_serves id c acts left serves =
    left_closes id c serves.closes serves.between left (left_sends id c serves.sends serves.between serves.sent) serves.closed

-- the first bytes of a piece are the next ones of its frame
pub piece_fits : (frame piece : List ℕ) (sent n : ℕ) → IsPiece (Answered frame sent) piece → n ≤ length piece → sent + n ≤ length frame
piece_fits frame piece sent n is fits =
    omega (arith, is.0, fits, ap length is.1, length-take most_piece (drop sent frame), length-drop sent frame)

pub further_sound : (service : Service) (stored : List Stored) (c : Connection) (piece : List ℕ) (n : ℕ) (p : Phase) → IsPiece p piece →
    n ≤ length piece →
    IsSoundIn service stored c p → IsSoundIn service stored (record c { phase = sent_more p n }) (sent_more p n)
further_sound service stored c piece n Reading is fits sound = absurd is
further_sound service stored c piece n (Waits due) is fits sound = absurd is
further_sound service stored c piece n (Answered frame sent) is fits sound =
    (IsAllowed-at service stored c (Answered frame (sent + n)) frame sound.0, piece_fits frame piece sent n is fits)
further_sound service stored c piece n Silent is fits sound = absurd is

-- who has a piece doesn't wait
pub piece_waits : (p : Phase) (piece : List ℕ) (due : ℕ) → IsPiece p piece → p ≡ Waits due → ⊥
piece_waits Reading piece due is waits = is
piece_waits (Waits n) piece due is waits = is
piece_waits (Answered frame sent) piece due is waits = cc
piece_waits Silent piece due is waits = is

-- nor does it after more of it is sent
pub more_idle : (p : Phase) (piece : List ℕ) (n id : ℕ) → IsPiece p piece → waits_as (sent_more p n) id ≡ []
more_idle Reading piece n id is = refl
more_idle (Waits due) piece n id is = absurd is
more_idle (Answered frame sent) piece n id is = refl
more_idle Silent piece n id is = refl
