-- How all connections stand after an opening.
use Rattle.std.proofs.Common.{◌≡◌, ℕ, true, false, List, [], ◌∷◌, ◌++◌, Option, Some, None, refl, sym, ◌∙◌, ap, subst, append_assoc}
use Rattle.std.proofs.lemmas.Bool.{eq-eqb, ne_eqb}
use Rattle.edge_io.specs.Acts.{Act, Gave, Closed, Traffic, after_own, told}
use Rattle.edge_io.specs.declared.event.Event.TheVariants.{Opened}
use Rattle.hall.proofs.ChangeLemmas.{changes_put}
use Rattle.hall.proofs.StandLemmas.{AllStand-by, AllStand-same, is_new, new_is_none}
use Rattle.hall.proofs.Status.{AllStand, FitsPhase, IsNew, Stands, held, gone}
use Rattle.hall.proofs.TrafficLemmas.{AreApart-more, AreApart-one, told-own}
use Rattle.hall.proofs.VerdictLemmas.{nothing_is_undecided}
use Rattle.hall.specs.Causes.{OpensIn, away}
use Rattle.hall.specs.Held.{HasRoom, IsFull}
use Rattle.hall.specs.Law.{no_room}
use Rattle.hall.specs.State.{Connection, Service, State, put}
use Rattle.hall.specs.Steps as steps
use Rattle.hall.specs.Steps.{Opens, session, turned_away}
use Rattle.hall.specs.Turns.{Meets, shut}

-- what was told of a connection when it opened
opened_now : (id : ℕ) (acts : List Act) (bytes : List ℕ) →
    told id (acts ++ (Gave (Opened id) bytes ∷ [])) ≡ record (told id acts) { opened = true; live = true }
opened_now id acts bytes = told-own id acts (Gave (Opened id) bytes) (eq-eqb id id refl)

module _ (service : Service) (meets : Meets) (s stepped : State) (id : ℕ) (acts : List Act) (bytes : List ℕ)
    (met : meets acts s (Opened id) bytes stepped) (all : AllStand service meets s acts) where
  -- nothing was told before of one that opens
  fresh_by : (told id acts).opened ≡ false → IsNew id acts
  fresh_by never = is_new service meets s.stored id acts (s.known id) never (all id)

  -- the opening met this state
  opening_by : (since : List Act) → OpensIn meets id (acts ++ (Gave (Opened id) bytes ∷ since)) since s
  opening_by since = record { opens = record { before = acts; bytes = bytes; acts_are = refl }; stepped = stepped; met = met }

  -- a connection that is held now stands, where nothing is sent
  opened_stands : (c : Connection) →
      ((told id (acts ++ (Gave (Opened id) bytes ∷ []))).sent ≡ [] →
      FitsPhase service meets s.stored id (acts ++ (Gave (Opened id) bytes ∷ [])) c c.phase) → IsNew id acts →
      AllStand service meets (put s id (Some c)) (acts ++ (Gave (Opened id) bytes ∷ []))
  opened_stands c fits fresh =
      let now = opened_now id acts bytes in
      AllStand-by service meets s (put s id (Some c)) id (Some c) [] acts (Gave (Opened id) bytes ∷ []) (changes_put s id (Some c))
      (λ j ne. AreApart-one j (Gave (Opened id) bytes) (ne_eqb id j (λ e. ne (sym e)))) all
      (held (record {
        opened = ap (λ (t : Traffic). t.opened) now;
        unclosed = ap (λ (t : Traffic). t.closed) now ∙ fresh.unclosed;
        by_phase = fits (ap (λ (t : Traffic). t.sent) now ∙ fresh.none);
      }))

  -- a session that opens is read
  session_stands : HasRoom s false → IsNew id acts →
      AllStand service meets (put s id (Some session)) (acts ++ (Gave (Opened id) bytes ∷ []))
  session_stands room = opened_stands session (λ none. (
    record {
      since = [];
      opened_in = s;
      opening = opening_by [];
      room = room;
      kept = refl;
      ends = refl;
      undecided = nothing_is_undecided;
    },
    none,
  ))

  -- one that is turned away has its frame
  away_stands : IsFull s false → HasRoom s true → IsNew id acts →
      AllStand service meets (put s id (Some turned_away)) (acts ++ (Gave (Opened id) bytes ∷ []))
  away_stands full room = opened_stands turned_away (λ none. (away (opening_by []) full room, none))

  -- a connection that is closed at once, since there is no room, stands
  full_stands : IsNew id acts → s.known id ≡ None → IsFull s false → IsFull s true →
      AllStand service meets s (acts ++ (Gave (Opened id) bytes ∷ (Closed id ∷ [])))
  full_stands fresh none many turned =
      let more : List Act = Gave (Opened id) bytes ∷ (Closed id ∷ []) in
      let both : told id (acts ++ more) ≡ record (told id acts) { opened = true; live = false; closed = true } =
      ap (λ (xs : List Act). told id xs) (sym (append_assoc acts (Gave (Opened id) bytes ∷ []) (Closed id ∷ [])))
      ∙ told-own id (acts ++ (Gave (Opened id) bytes ∷ [])) (Closed id) (eq-eqb id id refl)
      ∙ ap (λ (t : Traffic). after_own t (Closed id)) (opened_now id acts bytes) in
      AllStand-same service meets s id acts more
      (λ j ne.
      let off = ne_eqb id j (λ e. ne (sym e)) in
      AreApart-more j (Gave (Opened id) bytes ∷ []) (Closed id ∷ [])
      (AreApart-one j (Gave (Opened id) bytes) off) (AreApart-one j (Closed id) off)) all
      (subst (λ (x : Option Connection). Stands service meets s.stored id (acts ++ more) x) (sym none)
      (gone (ap (λ (t : Traffic). t.opened) both)
      (no_room (ap (λ (t : Traffic). t.sent) both ∙ fresh.none)
      (record { since = Closed id ∷ []; state = s; opening = opening_by (Closed id ∷ []); sessions_full = many; aways_full = turned }))))

  -- an opening
  pub opening_stands : (told id acts).opened ≡ false → (next : State) (at_once : Option ℕ) → Opens s id next at_once →
      AllStand service meets next (acts ++ (Gave (Opened id) bytes ∷ shut at_once))
  opening_stands never next at_once (steps.again {c} known) =
      absurd (new_is_none service meets s.stored id acts (s.known id) c never known (all id))
  opening_stands never next at_once (steps.held none room) = session_stands room (fresh_by never)
  opening_stands never next at_once (steps.away none many room) = away_stands many room (fresh_by never)
  opening_stands never next at_once (steps.full none many turned) = full_stands (fresh_by never) none many turned
