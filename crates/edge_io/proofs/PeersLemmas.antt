-- What a read of a connection comes to, by whether it is held afterwards.
use Rattle.std.proofs.Common.{◌≡◌, ◌≤◌, ◌==◌, ℕ, Bool, true, false, not, List, [], ◌∷◌, length, Option, Some, None, refl, sym, ◌∙◌, ap, arith, subst, cond}
use Rattle.std.specs.List.{filter}
use Rattle.edge_io.specs.Peers.{Line, Hears, HearsPeer, without}
use Rattle.edge_io.specs.declared.follow.Following.{Following}
use Rattle.edge_io.specs.declared.peers.Peer.{Peer}

-- a connection that stays held was read
pub Hears-left : {S : Type 0} (remaining : S → Option (List ℕ)) (hangup : Bool) (uses now : ℕ) (a b : Option (Peer S)) (id : ℕ) (buffer : List ℕ)
    (line after : Line) (told : Following) (old left : Peer S) → a ≡ Some old → b ≡ Some left → told.gone ≡ false →
    now ≡ uses → HearsPeer remaining hangup now old left id buffer line after told → Hears remaining hangup uses a b id buffer line after told.event
Hears-left {S} remaining hangup uses now a b id buffer line after told old left was is stays same heard =
    subst (λ (x : Option (Peer S)). Hears remaining hangup uses x b id buffer line after told.event) (sym was)
    (told, left, subst (λ (u : ℕ). HearsPeer remaining hangup u old left id buffer line after told) same heard, refl, is ∙ ap (λ (g : Bool). cond g None (Some left)) (sym stays))

-- a connection was read that is held no more
pub Hears-gone : {S : Type 0} (remaining : S → Option (List ℕ)) (hangup : Bool) (uses now : ℕ) (a b : Option (Peer S)) (id : ℕ) (buffer : List ℕ)
    (line after : Line) (told : Following) (old left : Peer S) → a ≡ Some old → b ≡ None → told.gone ≡ true →
    now ≡ uses → HearsPeer remaining hangup now old left id buffer line after told → Hears remaining hangup uses a b id buffer line after told.event
Hears-gone {S} remaining hangup uses now a b id buffer line after told old left was is goes same heard =
    subst (λ (x : Option (Peer S)). Hears remaining hangup uses x b id buffer line after told.event) (sym was)
    (told, left, subst (λ (u : ℕ). HearsPeer remaining hangup u old left id buffer line after told) same heard, refl, is ∙ ap (λ (g : Bool). cond g None (Some left)) (sym goes))

-- the others are those that a test for another number keeps
pub filter_without : (id : ℕ) (ids : List ℕ) → filter (λ (j : ℕ). not (j == id)) ids ≡ without id ids
filter_without id [] = refl
filter_without id (x ∷ ids) =
    elim (x == id) as (λ b. cond (not b) (x ∷ filter (λ (j : ℕ). not (j == id)) ids) (filter (λ (j : ℕ). not (j == id)) ids)
    ≡ cond b (without id ids) (x ∷ without id ids)) [
      | true ↦ filter_without id ids
      | false ↦ ap (λ (rest : List ℕ). x ∷ rest) (filter_without id ids)
    ]

-- a list is no longer without a number
pub length_without : (id : ℕ) (ids : List ℕ) → length (without id ids) ≤ length ids
length_without id [] = omega arith
length_without id (x ∷ ids) =
    let rest = length_without id ids in
    elim (x == id) as (λ (b : Bool). length (cond b (without id ids) (x ∷ without id ids)) ≤ length (x ∷ ids)) [
      | true ↦ omega arith
      | false ↦ omega arith
    ]
