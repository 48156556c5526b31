-- How serving is put together of what the hub told.
use Rattle.std.proofs.Common.{ℕ, List, [], ◌∷◌, ◌++◌, Option, Some, None, refl, sym, ◌∙◌, subst, append-nil}
use Rattle.edge_io.specs.Acts.{Act}
use Rattle.edge_io.specs.Hub.{HubSeen}
use Rattle.edge_io.proofs.CallerLemmas.{Tells-more, Tells-none}
use Rattle.hall.specs.Sends.{gone, ServesEach}
use Rattle.hall.specs.Serving.{ClosedDone, Goes, SentPiece, ServedEach, ServedOne, ServedPeer}
use Rattle.hall.specs.State.{Connection, State}
use Rattle.hall.specs.Sends.ServesEach.{none as none_each, more as more_each}

-- ---- what is told

-- nothing
pub Goes-none : (seen : HubSeen) → Goes seen seen []
Goes-none seen = record { tells = Tells-none seen.acts; faults = refl }

-- first these acts, then those
pub Goes-more : (old mid new : HubSeen) (xs ys : List Act) → Goes old mid xs → Goes mid new ys → Goes old new (xs ++ ys)
Goes-more old mid new xs ys first more =
    record { tells = Tells-more old.acts mid.acts new.acts xs ys first.tells more.tells; faults = more.faults ∙ first.faults }

-- ---- connections

-- a connection sent its piece, and was closed where it was done
pub served_both : (id : ℕ) (c d : Connection) (left : Option Connection) (old mid new : HubSeen) → SentPiece id c old (Some d) mid →
    ClosedDone id d mid left new → ServedOne id c old left new
served_both id c d left old mid new sent closed = record {
  acts = sent.acts ++ closed.acts;
  serves = record { sends = sent.acts; between = Some d; sent = sent.sends; closes = closed.acts; closed = closed.closes; acts_are = refl };
  goes = Goes-more old mid new sent.acts closed.acts sent.goes closed.goes;
}

-- a send to it failed
pub served_broken : (id : ℕ) (c : Connection) (old new : HubSeen) → SentPiece id c old None new → ServedOne id c old None new
served_broken id c old new sent = record {
  acts = sent.acts;
  serves = record {
    sends = sent.acts;
    between = None;
    sent = sent.sends;
    closes = [];
    closed = gone;
    acts_are =
        sym (append-nil sent.acts);
  };
  goes = sent.goes;
}

-- none so far
pub none_served : (s : State) (seen : HubSeen) → ServedEach s seen [] s seen
none_served s seen = record { acts = []; serves = none_each; goes = Goes-none seen }

-- and one more
pub one_more : (id : ℕ) (c : Connection) (s between left : State) (old mid new : HubSeen) (ids : List ℕ) → ServedEach s old ids between mid →
    ServedPeer id c between mid left new → ServedEach s old (ids ++ id ∷ []) left new
one_more id c s between left old mid new ids each own = record {
  acts = each.acts ++ own.one.acts;
  serves =
      subst (λ (y : State). ServesEach s (ids ++ id ∷ []) (each.acts ++ own.one.acts) y) (sym own.left_is)
      (more_each each.serves own.known own.one.serves);
  goes = Goes-more old mid new each.acts own.one.acts each.goes own.one.goes;
}
