-- Rows of members, whose words stand in a list of bytes.
use Rattle.std.proofs.Common.{◌≡◌, ℕ, zero, suc, ◌+◌, ◌-◌, ◌≤◌, ◌&&◌, List, [], ◌∷◌, ◌++◌, length, length-append, length-drop, map, take, drop, append_assoc, slice_get, Some, refl, sym, ap, ◌∙◌, subst, arith}
use Rattle.std.proofs.lemmas.List.{append-nil, drop-append-le, drop_at, take-append-le, take_at}
use Rattle.map_tables.specs.Draft.{same_member, same_members}
use Rattle.map_tables.specs.Rows.{bytes_from, member_of, row_behind, LiesWithin, LieWithin}
use Rattle.map_tables.specs.declared.member.Member.{Member}
use Rattle.map_tables.specs.declared.members.MemberRow.{MemberRow}
use Rattle.map_tables.proofs.ListLemmas.{one_item}

-- ---- Words

-- where more bytes are put at the end, those between two places stay
bytes_from-extended : (bytes more : List ℕ) (from to : ℕ) → from ≤ to → to ≤ length bytes
    → bytes_from (bytes ++ more) from to ≡ bytes_from bytes from to
bytes_from-extended bytes more from to order within =
    ap (take (to - from)) (drop-append-le from bytes more (omega (arith, order, within)))
    ∙ take-append-le (to - from) (drop from bytes) more (omega (arith, order, within, length-drop from bytes))

-- a part is read between its places
bytes_from-part : (before part after : List ℕ) (from to : ℕ) → length before ≡ from → from + length part ≡ to
    → bytes_from (before ++ (part ++ after)) from to ≡ part
bytes_from-part before part after from to begins ends =
    ap (take (to - from)) (drop_at before (part ++ after) from begins)
    ∙ take_at part after (to - from) (omega (arith, ends))

-- a member is read behind the bytes where its words were put
pub member_of-behind : (words : List ℕ) (m : Member)
    → member_of (words ++ (m.kind ++ m.role)) (row_behind (length words) m) ≡ m
member_of-behind words m =
    let from : ℕ = length words + length m.kind in
    ap (λ kind. record {
      kind = kind;
      reference = m.reference;
      role = bytes_from (words ++ (m.kind ++ m.role)) from (from + length m.role);
    }) (bytes_from-part words m.kind m.role (length words) from refl refl)
    ∙ ap (λ role. record { kind = m.kind; reference = m.reference; role = role })
    (ap (λ bytes. bytes_from bytes from (from + length m.role))
    (ap (λ role. words ++ (m.kind ++ role)) (sym (append-nil m.role))
    ∙ sym (append_assoc words m.kind (m.role ++ [])))
    ∙ bytes_from-part (words ++ m.kind) m.role [] from (from + length m.role) (length-append words m.kind) refl)

-- ---- Rows

-- where more words are put at the end, rows stand for the same members
pub members-extended : (words more : List ℕ) (rows : List MemberRow) → LieWithin (length words) rows
    → map (member_of (words ++ more)) rows ≡ map (member_of words) rows
members-extended words more [] within = refl
members-extended words more (row ∷ rows) within =
    ap (λ kind. record {
      kind = kind;
      reference = row.reference;
      role = bytes_from (words ++ more) row.middle row.end;
    } ∷ map (member_of (words ++ more)) rows)
    (bytes_from-extended words more row.start row.middle within.0.kind (omega (arith, within.0.role, within.0.last)))
    ∙ ap (λ role. record { kind = bytes_from words row.start row.middle; reference = row.reference; role = role }
    ∷ map (member_of (words ++ more)) rows)
    (bytes_from-extended words more row.middle row.end within.0.role within.0.last)
    ∙ ap (λ (rest : List Member). member_of words row ∷ rest) (members-extended words more rows within.1)

-- rows and one more at the end lie within more bytes
pub LieWithin-append : (bytes more : ℕ) (rows : List MemberRow) (row : MemberRow) → LieWithin bytes rows → bytes ≤ more
    → LiesWithin more row → LieWithin more (rows ++ row ∷ [])
LieWithin-append bytes more [] row within longer one = (one, tt)
LieWithin-append bytes more (x ∷ xs) row within longer one = (
  record { kind = within.0.kind; role = within.0.role; last = omega (arith, within.0.last, longer) },
  LieWithin-append bytes more xs row within.1 longer one,
)

-- so does the row at a place
pub LieWithin-at : (bytes : ℕ) (rows : List MemberRow) (i : ℕ) (row : MemberRow) → LieWithin bytes rows
    → slice_get rows i ≡ Some row → LiesWithin bytes row
LieWithin-at bytes [] i row within at = absurd cc
LieWithin-at bytes (x ∷ xs) zero row within at = subst (LiesWithin bytes) (one_item at) within.0
LieWithin-at bytes (x ∷ xs) (suc i) row within at = LieWithin-at bytes xs i row within.1 at

-- ---- The same members

-- what is left at a place begins with what stands there
left_at : {A : Type 0} (xs : List A) (i : ℕ) (x : A) → slice_get xs i ≡ Some x → drop i xs ≡ x ∷ drop (i + 1) xs
left_at [] i x at = absurd cc
left_at (y ∷ ys) zero x at = ap (λ z. z ∷ ys) (one_item at)
left_at (y ∷ ys) (suc i) x at =
    let place : suc i + 1 ≡ suc (i + 1) = omega arith in
    left_at ys i x at ∙ ap (λ n. x ∷ drop n (y ∷ ys)) (sym place)

-- members are the same from a place on where those there are and the rest
pub same_members-step : (members others : List Member) (i : ℕ) (m n : Member) → slice_get members i ≡ Some m
    → slice_get others i ≡ Some n
    → same_members (drop i members) (drop i others)
    ≡ same_member m n && same_members (drop (i + 1) members) (drop (i + 1) others)
same_members-step members others i m n at stands =
    ap (λ ms. same_members ms (drop i others)) (left_at members i m at)
    ∙ ap (same_members (m ∷ drop (i + 1) members)) (left_at others i n stands)
