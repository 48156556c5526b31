-- Links in pairs.
use Rattle.std.proofs.Common.{◌≡◌, ℕ, zero, suc, ◌+◌, ◌-◌, ◌*◌, ◌/◌, ◌%◌, ◌<◌, inl, inr, Bool, true, false, cond, eqb, List, [], ◌∷◌, ◌++◌, length, get_or, refl, sym, ap, ◌∙◌, arith, eq-eqb, length-append, append_assoc, append-nil}
use Rattle.std.proofs.lemmas.Bool.{ne_eqb, cases_eq}
use Rattle.std.proofs.lemmas.List.{get_or_read}
use Rattle.overpass_graph.specs.declared.link.Link.{Link}
use Rattle.overpass_graph.specs.declared.pairs.Piece.{Piece}
use Rattle.overpass_graph.specs.declared.pairs.Laid.{Laid}
use Rattle.overpass_graph.specs.Roads.{twin_of, places_below}
use Rattle.overpass_graph.specs.Groups.{key_at, group_of}
use Rattle.overpass_graph.specs.Links.{both_ways}
use Rattle.overpass_graph.specs.Maps.{no_link}
use Rattle.overpass_graph.specs.Pairs.{Net, paired, AreEndsBelow, IsSoundLaid, Lays, links_now}
use Rattle.overpass_graph.specs.Nets.{net_link, links_leaving}
use Rattle.overpass_graph.proofs.PlaceLemmas.{places-hit, places-miss, places-none}

-- ---- Numbers in pairs

-- the other number of a pair
other : ℕ → ℕ
other zero = 1
other (suc zero) = 0
other (suc (suc k)) = suc (suc (other k))

-- the number of a pair
half : ℕ → ℕ
half zero = 0
half (suc zero) = 0
half (suc (suc k)) = suc (half k)

-- a number is the second of its pair
is_second : ℕ → Bool
is_second zero = false
is_second (suc zero) = true
is_second (suc (suc k)) = is_second k

-- the number of a pair is half of each of its numbers
half-is : (k : ℕ) → half k ≡ k / 2
unfolding half
half-is zero = refl
half-is (suc zero) = refl
half-is (suc (suc k)) = omega (arith, half-is k)

-- the second number of a pair is odd
second-is : (k : ℕ) → is_second k ≡ eqb (k % 2) 1
unfolding is_second
second-is zero = refl
second-is (suc zero) = refl
second-is (suc (suc k)) = let e : suc (suc k) % 2 ≡ k % 2 = omega arith in second-is k ∙ ap (λ n. eqb n 1) (sym e)

-- the other number of a pair is the way back
other-is : (k : ℕ) → other k ≡ twin_of k
unfolding other twin_of
other-is zero = refl
other-is (suc zero) = refl
other-is (suc (suc k)) =
    elim (cases_eq (k % 2) 0) [
      | inl even ↦
          let e : suc (suc k) % 2 ≡ 0 = omega arith in
          let before : other k ≡ k + 1 = other-is k ∙ ap (λ b. cond b (k + 1) (k - 1)) (eq-eqb (k % 2) 0 even) in
          rw (eq-eqb (suc (suc k) % 2) 0 e) (omega (arith, before))
      | inr odd ↦
          let e : suc (suc k) % 2 ≡ 0 → ⊥ = λ h. absurd (odd (omega arith)) in
          let before : other k ≡ k - 1 = other-is k ∙ ap (λ b. cond b (k + 1) (k - 1)) (ne_eqb (k % 2) 0 odd) in
          let some : 0 < k = above_none k odd in
          rw (ne_eqb (suc (suc k) % 2) 0 e) (omega (arith, before, some))
    ]
  where
    above_none : (n : ℕ) → (n % 2 ≡ 0 → ⊥) → 0 < n
    above_none zero odd = absurd (odd refl)
    above_none (suc n) odd = omega arith

-- a pair is within an even count
other-within : (k n : ℕ) → k < 2 * n → other k < 2 * n
unfolding other
other-within zero n below = omega arith
other-within (suc zero) n below = omega arith
other-within (suc (suc k)) zero below = absurd (omega arith)
other-within (suc (suc k)) (suc n) below = let rest : k < 2 * n = omega arith in omega (arith, other-within k n rest)

-- the other number of the other one is the first
other-other : (k : ℕ) → other (other k) ≡ k
unfolding other
other-other zero = refl
other-other (suc zero) = refl
other-other (suc (suc k)) = ap (λ n. suc (suc n)) (other-other k)

-- the way back is within an even count
pub twin-within : (k n : ℕ) → k < 2 * n → twin_of k < 2 * n
twin-within k n below = rw (← other-is k) (other-within k n below)

-- the way back of the way back is the link
pub twin-twin : (k : ℕ) → twin_of (twin_of k) ≡ k
twin-twin k = rw (← other-is k, ← other-is (other k)) (other-other k)

-- ---- Lists of pairs

-- no segment
abbrev no_piece : Piece
no_piece = record { way = 0; segment = 0 }

-- the link of a number, read from its ends and its segment
abbrev read_pair : List ℕ → List Piece → ℕ → Link
read_pair ends pieces k = record {
  from = get_or ends k 0;
  to = get_or ends (other k) 0;
  way = (get_or pieces (half k) no_piece).way;
  segment = (get_or pieces (half k) no_piece).segment;
  back = is_second k;
}

-- a link of pairs is read from its ends and its segment
paired-at : (ends : List ℕ) (pieces : List Piece) → length ends ≡ 2 * length pieces → (k : ℕ) → k < length ends →
    get_or (paired ends pieces) k no_link ≡ read_pair ends pieces k
unfolding other half is_second
paired-at [] pieces even k below = absurd (omega arith)
paired-at (a ∷ ends) [] even k below = absurd (omega arith)
paired-at (a ∷ []) (p ∷ pieces) even k below = absurd (omega arith)
paired-at (a ∷ b ∷ ends) (p ∷ pieces) even zero below = refl
paired-at (a ∷ b ∷ ends) (p ∷ pieces) even (suc zero) below = refl
paired-at (a ∷ b ∷ ends) (p ∷ pieces) even (suc (suc k)) below = paired-at ends pieces (omega arith) k (omega arith)

-- pairs are as many links as ends
pub paired-length : (ends : List ℕ) (pieces : List Piece) → length ends ≡ 2 * length pieces → length (paired ends pieces) ≡ length ends
paired-length [] [] even = refl
paired-length [] (p ∷ pieces) even = absurd (omega arith)
paired-length (a ∷ ends) [] even = absurd (omega arith)
paired-length (a ∷ []) (p ∷ pieces) even = absurd (omega arith)
paired-length (a ∷ b ∷ ends) (p ∷ pieces) even = ap (λ n. suc (suc n)) (paired-length ends pieces (omega arith))

-- one more segment is two more links
pub paired-append : (ends : List ℕ) (pieces : List Piece) (a b : ℕ) (p : Piece) → length ends ≡ 2 * length pieces →
    paired (ends ++ a ∷ b ∷ []) (pieces ++ p ∷ []) ≡ paired ends pieces ++ both_ways p.way p.segment a b
paired-append [] [] a b p even = refl
paired-append [] (q ∷ pieces) a b p even = absurd (omega arith)
paired-append (c ∷ ends) [] a b p even = absurd (omega arith)
paired-append (c ∷ []) (q ∷ pieces) a b p even = absurd (omega arith)
paired-append (c ∷ d ∷ ends) (q ∷ pieces) a b p even =
    ap (λ links. record { from = c; to = d; way = q.way; segment = q.segment; back = false } ∷ record {
      from = d;
      to = c;
      way = q.way;
      segment = q.segment;
      back = true;
    } ∷ links)
    (paired-append ends pieces a b p (omega arith))

-- ---- What is read

-- the way back of an even link is the next one
pub twin-even : (k : ℕ) → k % 2 ≡ 0 → twin_of k ≡ k + 1
unfolding twin_of
twin-even k even = rw (eq-eqb (k % 2) 0 even) refl

-- the way back of an odd link is the one before it
pub twin-odd : (k : ℕ) → (k % 2 ≡ 0 → ⊥) → twin_of k ≡ k - 1
unfolding twin_of
twin-odd k odd = rw (ne_eqb (k % 2) 0 odd) refl

-- the link that a call reads from the lists
pub link-read : (ends : List ℕ) (pieces : List Piece) → length ends ≡ 2 * length pieces → (k : ℕ) (p : Piece) → k < length ends →
    p ≡ get_or pieces (k / 2) p → (from to : ℕ) → from ≡ get_or ends k 0 → to ≡ get_or ends (twin_of k) 0 →
    let link : Link = record { from = from; to = to; way = p.way; segment = p.segment; back = eqb (k % 2) 1 } in
    link ≡ get_or (paired ends pieces) k no_link
link-read ends pieces even k p below p_is from to from_is to_is =
    let half_in : k / 2 < length pieces = omega arith in
    let piece : p ≡ get_or pieces (half k) no_piece = get_or_read pieces (k / 2) p half_in p_is no_piece
    ∙ ap (λ n. get_or pieces n no_piece) (sym (half-is k)) in
    let to_other : to ≡ get_or ends (other k) 0 = to_is ∙ ap (λ n. get_or ends n 0) (sym (other-is k)) in
    rw (paired-at ends pieces even k below, from_is, to_other, piece, second-is k) refl

-- where two keys agree below a count, the places are the same
pub places-same : (f g : ℕ → ℕ) (v n : ℕ) → ((k : ℕ) → k < n → f k ≡ g k) → places_below f v n ≡ places_below g v n
places-same f g v zero same = places-none f v ∙ sym (places-none g v)
places-same f g v (suc n) same =
    let here = same n (omega arith) in
    let before = places-same f g v n (λ k below. same k (omega arith)) in
    elim (cases_eq (f n) v) [
      | inl hit ↦ places-hit f v n hit ∙ ap (λ xs. xs ++ n ∷ []) before ∙ sym (places-hit g v n (sym here ∙ hit))
      | inr miss ↦ places-miss f v n miss ∙ before ∙ sym (places-miss g v n (λ h. miss (here ∙ h)))
    ]

-- a link leaves at its end
pub paired-from : (ends : List ℕ) (pieces : List Piece) → length ends ≡ 2 * length pieces → (k : ℕ) → k < length ends →
    (get_or (paired ends pieces) k no_link).from ≡ get_or ends k 0
paired-from ends pieces even k below = ap (λ (l : Link). l.from) (paired-at ends pieces even k below)

-- a link arrives at the end of its way back
pub paired-to : (ends : List ℕ) (pieces : List Piece) → length ends ≡ 2 * length pieces → (k : ℕ) → k < length ends →
    (get_or (paired ends pieces) k no_link).to ≡ get_or ends (twin_of k) 0
paired-to ends pieces even k below = ap (λ (l : Link). l.to) (paired-at ends pieces even k below) ∙ ap (λ n. get_or ends n 0) (other-is k)

-- the group of a node are the links that leave it
pub group-leaves : (nodes : ℕ) (ends : List ℕ) (pieces : List Piece) (net : Net) → length ends ≡ 2 * length pieces →
    record { nodes = nodes; links = paired ends pieces } ≡ net → (node : ℕ) → group_of ends node ≡ links_leaving net node
group-leaves nodes ends pieces net even seen node =
    let links : paired ends pieces ≡ net.links = ap (λ (n : Net). n.links) seen in
    let size : length net.links ≡ length ends = ap length (sym links) ∙ paired-length ends pieces even in
    rw size
    (places-same (key_at ends) (λ link. (net_link net link).from) node (length ends)
    (λ k below. sym (ap (λ ls. (get_or ls k no_link).from) (sym links) ∙ paired-from ends pieces even k below)))

-- the same through what a crate above sees
pub net-read : (nodes : ℕ) (ends : List ℕ) (pieces : List Piece) (net : Net) → length ends ≡ 2 * length pieces →
    record { nodes = nodes; links = paired ends pieces } ≡ net → (k : ℕ) (p : Piece) → k < length ends →
    p ≡ get_or pieces (k / 2) p → (from to : ℕ) → from ≡ get_or ends k 0 → to ≡ get_or ends (twin_of k) 0 →
    let link : Link = record { from = from; to = to; way = p.way; segment = p.segment; back = eqb (k % 2) 1 } in
    link ≡ net_link net k
net-read nodes ends pieces net even seen k p below p_is from to from_is to_is =
    link-read ends pieces even k p below p_is from to from_is to_is ∙ ap (λ (n : Net). get_or n.links k no_link) seen

-- there are as many links as ends
pub net-size : (nodes : ℕ) (ends : List ℕ) (pieces : List Piece) (net : Net) → length ends ≡ 2 * length pieces →
    record { nodes = nodes; links = paired ends pieces } ≡ net → length ends ≡ length net.links
net-size nodes ends pieces net even seen = sym (paired-length ends pieces even) ∙ ap (λ (n : Net). length n.links) seen

-- a list of ends with two more is below where they are
ends-below : (nodes : ℕ) (ends : List ℕ) (a b : ℕ) → AreEndsBelow nodes ends → a < nodes → b < nodes →
    AreEndsBelow nodes (ends ++ a ∷ b ∷ [])
ends-below nodes [] a b below a_in b_in zero within = a_in
ends-below nodes [] a b below a_in b_in (suc zero) within = b_in
ends-below nodes [] a b below a_in b_in (suc (suc k)) within = absurd (omega arith)
ends-below nodes (e ∷ ends) a b below a_in b_in zero within = below 0 (omega arith)
ends-below nodes (e ∷ ends) a b below a_in b_in (suc k) within =
    ends-below nodes ends a b (λ j under. below (suc j) (omega arith)) a_in b_in k (omega arith)

-- one more segment is laid
pub laid-more : (nodes : ℕ) (laid next : Laid) (a b : ℕ) (p : Piece) → IsSoundLaid nodes laid → a < nodes → b < nodes →
    next.ends.items ≡ (laid.ends.items ++ a ∷ []) ++ b ∷ [] → next.pieces.items ≡ laid.pieces.items ++ p ∷ [] →
    Lays nodes laid next (both_ways p.way p.segment a b)
laid-more nodes laid next a b p is a_in b_in ends_are pieces_are =
    let ends : next.ends.items ≡ laid.ends.items ++ a ∷ b ∷ [] = ends_are ∙ append_assoc laid.ends.items (a ∷ []) (b ∷ []) in
    record {
      sound = record {
        even = rw (ends, pieces_are, length-append laid.ends.items (a ∷ b ∷ []), length-append laid.pieces.items (p ∷ []))
            (omega (arith, is.even));
        below = rw ends (ends-below nodes laid.ends.items a b is.below a_in b_in);
      };
      links = rw (ends, pieces_are) (paired-append laid.ends.items laid.pieces.items a b p is.even);
    }

-- nothing more is laid
pub laid-none : (nodes : ℕ) (laid : Laid) → IsSoundLaid nodes laid → Lays nodes laid laid []
laid-none nodes laid is = record { sound = is; links = sym (append-nil (links_now laid)) }
