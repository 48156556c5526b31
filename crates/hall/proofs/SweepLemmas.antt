-- A room stays as it has to be where a making is dropped for which no session waits.
use Rattle.std.proofs.Common.{◌≡◌, ◌≢◌, ◌<◌, ◌∙◌, ℕ, zero, suc, Bool, true, false, List, [], ◌∷◌, Option, Some, None, get_or, take, length, inl, inr, refl, subst, sym, arith}
use Rattle.std.proofs.lemmas.Bool.{cases_lt}
use Rattle.std.proofs.lemmas.List.{get_or_past}
use Rattle.std.proofs.lemmas.Option.{slice_get_read}
use Rattle.hall.specs.Swept.{HasNoWaiter, HasWaiter, IsSwept, IsSweptAt}
use Rattle.hall.proofs.PeerLemmas.{one_at}
use Rattle.hall.specs.Parts.{AreReadied, IsHeld, IsSearchIn, is_awaited_by}
use Rattle.hall.specs.State.{Service, State}
use Rattle.hall.specs.Steps.{Works}
use Rattle.hall.specs.declared.room.Room.{Room}
use Rattle.hall.specs.declared.peer.Phase.{Phase as Kept}
use Rattle.hall.specs.declared.peer.Phase.TheVariants as phases
use Rattle.hall.specs.declared.peer.Peer.{Peer}
use Rattle.session_answers.proofs.CallerLemmas.{job_unawaited}
use Rattle.session_answers.specs.Makings.{Puts}
use Rattle.session_answers.specs.Sites.{Site}
use Rattle.session_answers.specs.Stored.{Stored}
use Rattle.session_answers.specs.Received.{received_of}
use Rattle.session_answers.specs.Verdicts.{part}
use Rattle.session_answers.specs.declared.kept.KeptProfiles.{KeptProfiles}

-- a turn of work changes this where the makings are swept behind it
pub works_same : (service : Service) (s worked swept : State) → Works service s worked → swept ≡ worked → Works service s swept
works_same service s worked swept works same = subst (Works service s) (sym same) works

-- ---- Who waits

-- those at the places so far don't wait, nor does the one at the next
pub none_next : (peers : List Peer) (j k : ℕ) (x : Peer) → j < length peers → x ≡ get_or peers j x →
    is_awaited_by x.phase k ≡ false → HasNoWaiter (take j peers) k → HasNoWaiter (take (suc j) peers) k
none_next [] j k x there is never all peer one = absurd (omega (arith, there))
none_next (y ∷ peers) zero k x there is never all peer (inl same) =
    subst (λ (z : Peer). is_awaited_by z.phase k ≡ false) (is ∙ same) never
none_next (y ∷ peers) zero k x there is never all peer (inr later) = absurd later
none_next (y ∷ peers) (suc j) k x there is never all peer (inl same) = all peer (inl same)
none_next (y ∷ peers) (suc j) k x there is never all peer (inr later) =
    none_next peers j k x (omega (arith, there)) is never (λ z one. all z (inr one)) peer later

-- who was found waits
pub waiter_at : (peers : List Peer) (j k : ℕ) (x : Peer) → j < length peers → x ≡ get_or peers j x →
    is_awaited_by x.phase k ≡ true → HasWaiter peers k
waiter_at peers j k x there is found = record {
  peer = x;
  there = one_at peers j x (slice_get_read peers (length peers) j x refl there is);
  awaits = found;
}

-- ---- What stays

module _ (site : Site) (stored : List Stored) (old new : KeptProfiles) (k : ℕ)
    (puts : Puts old.makings.slots.items new.makings.slots.items k None) where
  -- a search that doesn't wait for a making that is dropped is that of its connection still
  search_unawaited : (bytes : List ℕ) (ended : Bool) (whole : Option ℕ) (phase : Kept) → is_awaited_by phase k ≡ false →
      IsSearchIn site stored old bytes ended whole phase → IsSearchIn site stored new bytes ended whole phase
  search_unawaited bytes ended whole phases.Reading other is = tt
  search_unawaited bytes ended whole (phases.Waits pending) other is = record {
    before = is.before;
    aim = is.aim;
    span = is.span;
    verdict = is.verdict;
    whole_is = is.whole_is;
    within = is.within;
    job = job_unawaited site is.aim (part bytes is.span) pending (take is.before stored) old new k puts other is.job;
  }
  search_unawaited bytes ended whole (phases.Answered frame sent) other is = tt
  search_unawaited bytes ended whole phases.Silent other is = tt

-- a room from which a making was dropped
abbrev pub without_making : Room → KeptProfiles → Room
without_making room kept = record room { desk = record room.desk { kept = kept } }

module _ (room : Room) (kept : KeptProfiles) (k : ℕ)
    (puts : Puts room.desk.kept.makings.slots.items kept.makings.slots.items k None) where
  -- it is as it has to be where no session waited for that
  pub swept : IsHeld room → HasNoWaiter room.peers.items k → AreReadied (record room.desk { kept = kept }) →
      IsHeld (without_making room kept)
  swept held never are = record {
    sound = held.sound;
    ascending = held.ascending;
    roomy = held.roomy;
    few = held.few;
    searching = λ peer one.
        search_unawaited _ _ room.desk.kept kept k puts (received_of peer.received) peer.ended peer.before peer.phase
        (never peer one) (held.searching peer one);
    kept = are;
  }

  -- nothing stands there
  pub swept_there : IsSweptAt (without_making room kept) k
  swept_there making there = let clash : None ≡ Some making = sym puts.is ∙ there in absurd (cc)

  -- and elsewhere stands what stood there
  pub swept_elsewhere : (j : ℕ) → j ≢ k → IsSweptAt room j → IsSweptAt (without_making room kept) j
  swept_elsewhere j other was making there = was making (sym (puts.others j other) ∙ there)

-- where a making stands, there is a place
slot_within : {A : Type 0} (slots : List (Option A)) (k : ℕ) (x : A) → get_or slots k None ≡ Some x → k < length slots
slot_within slots k x there =
    elim (cases_lt k (length slots)) [
      | inl below ↦ below
      | inr past ↦
          (let none : get_or slots k None ≡ None = get_or_past slots k None past in
          let clash : Some x ≡ None = sym there ∙ none in cc)
    ]

-- each making is swept where those at all places are
pub swept_whole : (room : Room) (n : ℕ) → n ≡ length room.desk.kept.makings.slots.items →
    ((k : ℕ) → k < n → IsSweptAt room k) → IsSwept room
swept_whole room n whole below k making there =
    below k
    (subst (λ (m : ℕ). k < m) (sym whole) (slot_within room.desk.kept.makings.slots.items k making there)) making there
