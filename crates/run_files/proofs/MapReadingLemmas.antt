-- What the open file comes to, by the bytes that were read of it and fed.
use Rattle.std.proofs.Common.{◌≡◌, ◌⊎◌, ℕ, ◌+◌, ◌<◌, ◌≤◌, inl, inr, List, ◌++◌, length, take, Option, Some, None, Result, Ok, Err, min, sym, ap, ◌∙◌, subst, arith, append_assoc, length-append}
use Rattle.std.proofs.Math.Seq.{take-append-add}
use Rattle.std.proofs.lemmas.List.{take-append-le, take_all, take_min, length-take}
use Rattle.std.specs.Io.KnownBytes.{Consumes}
use Rattle.command_words.specs.Given.{Named}
use Rattle.edge_io.specs.Whole.{IsAllLeft, ReadsBytes}
use Rattle.run_files.specs.MapReading.{CountsMapFault, IsReadAs, IsReadFrom, IsTextOf, IsTold, OnFault, ReadsMap}
use Rattle.run_files.specs.NoteLines.{read_notes}
use Rattle.run_files.specs.Notes.{Inputs, IsNoted}
use Rattle.run_files.specs.declared.map_error.MapFileError.{MapFileError}
use Rattle.run_files.specs.declared.map_error.MapFileError.TheVariants.{Fault, TooLong, Map, NoMemory}
use Rattle.map_tables.specs.declared.error.MapError.{MapError}
use Rattle.map_tables.specs.declared.error.MapError.TheVariants as map
use Rattle.overpass_graph.specs.Builder.{IsFaultOfBeginning, IsFaultOfText, MayBecomeMap}
use Rattle.overpass_graph.specs.Maps.{MapValue}

-- bytes that were read, with what they come to
pub reads-map : (file : Named) (limit : ℕ) (old new : Inputs) (bytes : List ℕ) (result : Result MapValue MapFileError) →
    ReadsBytes limit old.files new.files bytes → IsReadAs limit bytes result →
    IsNoted (read_notes file (length bytes)) old.notes new.notes → ReadsMap file limit old new result
reads-map file limit old new bytes result how is noted = record { bytes = bytes; how = how; is = is; noted = noted }

-- a fault of reading says nothing of the bytes
pub read-failed : (limit : ℕ) (left : Option (List ℕ)) (result : Result MapValue MapFileError) → result ≡ Err Fault →
    IsReadFrom limit left result
read-failed limit left result is = subst (IsReadFrom limit left) (sym is) (any left)
  where
    any : (left : Option (List ℕ)) → IsReadFrom limit left (Err Fault)
    any None = tt
    any (Some bytes) = tt

-- what was fed is all that was left
pub read-whole : (limit : ℕ) (left : Option (List ℕ)) (bytes : List ℕ) (result : Result MapValue MapFileError) → length bytes ≤ limit →
    IsAllLeft left bytes →
    IsTextOf bytes result → IsReadFrom limit left result
read-whole limit None bytes result fits all text = tt
read-whole limit (Some xs) bytes result fits all text = subst (λ (b : List ℕ). IsReadAs limit b result) (sym all) (whole result text)
  where
    whole : (r : Result MapValue MapFileError) → IsTextOf bytes r → IsReadAs limit bytes r
    whole (Ok map) t = (fits, t)
    whole (Err (Map fault)) t = inr (fits, t)
    whole (Err NoMemory) t = tt
    whole (Err Fault) t = absurd t
    whole (Err TooLong) t = absurd t

-- so many first bytes of what was left, of which a piece was read behind others
front : (bytes piece rest : List ℕ) (k : ℕ) → k ≤ length piece → take (length bytes + k) ((bytes ++ piece) ++ rest) ≡ bytes ++ take k piece
front bytes piece rest k within =
    ap (take (length bytes + k)) (append_assoc bytes piece rest) ∙ take-append-add bytes (piece ++ rest) k
    ∙ ap (λ (l : List ℕ). bytes ++ l) (take-append-le k piece rest within)

-- a piece of which so much as there is room for has a fault
pub read-fault : (T : Type 0) (limit room : ℕ) (before after : Option (List ℕ)) (bytes piece : List ℕ) (error : MapFileError) →
    length bytes + room ≡ limit →
    Consumes before after (bytes ++ piece) → OnFault {T = T} (Err error) (IsFaultOfBeginning (bytes ++ take room piece)) →
    IsReadFrom limit before (Err error)
read-fault T limit room None after bytes piece error held took fault = tt
read-fault T limit room (Some xs) None bytes piece error held took fault = absurd took
read-fault T limit room (Some xs) (Some rest) bytes piece error held took fault = go error fault
  where
    -- as much of the piece as there is room for
    count : ℕ
    count = min room (length piece)

    within : count ≤ length piece
    within = omega (arith, sym (length-take room piece))

    go : (error : MapFileError) → OnFault {T = T} (Err error) (IsFaultOfBeginning (bytes ++ take room piece)) →
        IsReadAs limit xs (Err error)
    go (Map f) is =
        let fed : take (length bytes + count) xs ≡ bytes ++ take room piece =
        ap (take (length bytes + count)) took ∙ front bytes piece rest count within
        ∙ ap (λ (l : List ℕ). bytes ++ l) (take_min room piece) in
        inl (record {
          count = length bytes + count;
          there = omega (arith, within, ap length took, length-append (bytes ++ piece) rest, length-append bytes piece);
          taken = omega (arith, held, length-take room piece);
          is = subst (λ (l : List ℕ). IsFaultOfBeginning l f) (sym fed) is;
        })
    go NoMemory is = tt
    go Fault is = absurd is
    go TooLong is = absurd is

-- a piece for which there isn't room
pub read-long : (limit room : ℕ) (before after : Option (List ℕ)) (bytes piece : List ℕ) → length bytes + room ≡ limit →
    room < length piece →
    Consumes before after (bytes ++ piece) → MayBecomeMap (bytes ++ take room piece) → IsReadFrom limit before (Err TooLong)
read-long limit room None after bytes piece held more took may = tt
read-long limit room (Some xs) None bytes piece held more took may = absurd took
read-long limit room (Some xs) (Some rest) bytes piece held more took may =
    let within : room ≤ length piece = omega (arith, more) in
    let fed : take limit xs ≡ bytes ++ take room piece =
    ap (λ (k : ℕ). take k xs) (sym held) ∙ ap (take (length bytes + room)) took ∙ front bytes piece rest room within in (
      omega (arith, held, more, ap length took, length-append (bytes ++ piece) rest, length-append bytes piece),
      subst MayBecomeMap (sym fed) may,
    )

-- a piece for which there is room, behind what was fed
pub fed-whole : (P : List ℕ → Type 0) (room : ℕ) (bytes piece fed : List ℕ) → fed ≡ take room piece → length piece ≤ room →
    P (bytes ++ fed) → P (bytes ++ piece)
fed-whole P room bytes piece fed is fits holds =
    subst (λ (l : List ℕ). P (bytes ++ l)) (is ∙ take_all room piece fits) holds

-- the end of a text leaves the count of faults
pub text-counts : (old new : ℕ) (bytes : List ℕ) (result : Result MapValue MapFileError) → new ≡ old → IsTextOf bytes result →
    CountsMapFault old new result
text-counts old new bytes (Ok map) same text = same
text-counts old new bytes (Err (Map fault)) same text = same
text-counts old new bytes (Err NoMemory) same text = same
text-counts old new bytes (Err Fault) same text = absurd text
text-counts old new bytes (Err TooLong) same text = absurd text

-- a piece that is refused leaves the count of faults
pub fault-counts : (T : Type 0) (old new : ℕ) (P : MapError → Type 0) (error : MapFileError) → new ≡ old → OnFault {T = T} (Err error) P →
    CountsMapFault old new (Err error)
fault-counts T old new P (Map fault) same is = same
fault-counts T old new P NoMemory same is = same
fault-counts T old new P Fault same is = absurd is
fault-counts T old new P TooLong same is = absurd is

-- what a fault is told as, where it is want of memory or has a property that holds of the map's faults
apart : (P : MapError → Type 0) (Q : MapFileError → Type 0) (error : MapError) (told : MapFileError) → IsTold error told → Q NoMemory →
    (P error → Q (Map error)) → (error ≡ map.NoMemory) ⊎ P error → Q told
apart P Q error told is none fault was = elim is [
  | inl (_, e) ↦ subst Q (sym e) none
  | inr (not, e) ↦ subst Q (sym e) (fault (elim was [ inl m ↦ absurd (not m) | inr p ↦ p ]))
]

-- a fault of the end of a text, told
pub told-at-end : (bytes : List ℕ) (error : MapError) (told : MapFileError) → IsTold error told →
    (error ≡ map.NoMemory) ⊎ IsFaultOfText bytes error → IsTextOf bytes (Err told)
told-at-end bytes error told is was =
    apart (IsFaultOfText bytes) (λ (e : MapFileError). IsTextOf bytes (Err e)) error told is tt (λ p. p) was

-- a fault of a piece, told
pub told-of-piece : (T : Type 0) (P : MapError → Type 0) (error : MapError) (told : MapFileError) → IsTold error told →
    (error ≡ map.NoMemory) ⊎ P error → OnFault {T = T} (Err told) P
told-of-piece T P error told is was = apart P (λ (e : MapFileError). OnFault {T = T} (Err e) P) error told is tt (λ p. p) was
