-- What is shown of a file after several reads.
use Rattle.std.proofs.Common.{◌≡◌, ℕ, suc, ◌+◌, ◌<◌, ◌≤◌, List, [], ◌++◌, length, take, Option, Some, None, refl, sym, ap, ◌∙◌, subst, arith, length-append, length-take-le, append-nil}
use Rattle.std.proofs.KnownBytes.{Consumes-trans, Consumes-nil, Consumes-kept}
use Rattle.std.specs.Io.KnownBytes.{Consumes, IsAtEnd}
use Rattle.edge_io.specs.Faults.{count_after, next_count}
use Rattle.edge_io.specs.Files.{FilesSeen, Reads, FailsToRead}
use Rattle.edge_io.specs.Whole.{IsAllLeft, IsTooLong, ReadsBytes, ReadsOn, ReadsWithin}

-- these bytes of the open file were read, by no more reads than bytes, and no call failed
pub record HasRead (old new : FilesSeen) (bytes : List ℕ) : Type 0 where
  pub times : ℕ
  pub few : times ≤ length bytes
  pub left : Consumes old.left new.left bytes
  pub is_open : new.is_open ≡ old.is_open
  pub files : new.files ≡ old.files
  pub opens : new.opens ≡ old.opens
  pub reads : new.reads ≡ count_after times old.reads
  pub faults : new.faults ≡ old.faults

-- nothing was read at first
pub HasRead-none : (seen : FilesSeen) → HasRead seen seen []
HasRead-none seen = record {
  times = 0;
  few = omega arith;
  left = Consumes-nil seen.left;
  is_open = refl;
  files = refl;
  opens = refl;
  reads = refl;
  faults = refl;
}

-- the count after one more read
count_more : (times old mid new : ℕ) → mid ≡ count_after times old → new ≡ next_count mid → new ≡ count_after (suc times) old
count_more times old mid new before next = next ∙ ap next_count before

-- the bytes of one more read follow those before
pub joined : (first mid new : FilesSeen) (bytes buffer : List ℕ) (n : ℕ) → HasRead first mid bytes → Reads mid new buffer n →
    Consumes first.left new.left (bytes ++ take n buffer)
joined first mid new bytes buffer n before more = Consumes-trans first.left mid.left new.left bytes (take n buffer) before.left more.left

-- one more read, within the limit or beyond it
pub ReadsBytes-more : (limit : ℕ) (first mid new : FilesSeen) (bytes buffer : List ℕ) (n : ℕ) → length bytes ≤ limit →
    HasRead first mid bytes → Reads mid new buffer n → ReadsBytes limit first new (bytes ++ take n buffer)
ReadsBytes-more limit first mid new bytes buffer n fits before more = record {
  times = suc before.times;
  few = omega (arith, before.few, length-append bytes (take n buffer));
  limited = omega (arith, before.few);
  left = joined first mid new bytes buffer n before more;
  is_open = more.is_open ∙ before.is_open;
  files = more.files ∙ before.files;
  opens = more.opens ∙ before.opens;
  reads = count_more before.times first.reads mid.reads new.reads before.reads more.reads;
}

-- the bytes so far, where another read gave none
pub ReadsBytes-end : (limit : ℕ) (first mid new : FilesSeen) (bytes buffer : List ℕ) (n : ℕ) → length bytes ≤ limit →
    HasRead first mid bytes → Reads mid new buffer n → n ≡ 0 → ReadsBytes limit first new bytes
ReadsBytes-end limit first mid new bytes buffer n fits before more none =
    subst (ReadsBytes limit first new) (no_more buffer n none) (ReadsBytes-more limit first mid new bytes buffer n fits before more)
  where
    no_more : (buffer : List ℕ) (n : ℕ) → n ≡ 0 → bytes ++ take n buffer ≡ bytes
    no_more buffer n none = ap (λ (k : ℕ). bytes ++ take k buffer) none ∙ none_taken buffer
      where
        none_taken : (buffer : List ℕ) → bytes ++ take 0 buffer ≡ bytes
        none_taken buffer = append-nil bytes

-- the bytes so far are all, where another read gave none
pub IsAllLeft-end : (limit : ℕ) (first mid new : FilesSeen) (bytes buffer : List ℕ) (n : ℕ) → length bytes ≤ limit →
    HasRead first mid bytes → Reads mid new buffer n → n ≡ 0 → IsAllLeft first.left bytes
IsAllLeft-end limit first mid new bytes buffer n fits before more none =
    all first.left new.left bytes (ReadsBytes-end limit first mid new bytes buffer n fits before more none).left (more.end none)
  where
    all : (a b : Option (List ℕ)) (bytes : List ℕ) → Consumes a b bytes → IsAtEnd b → IsAllLeft a bytes
    all None b bytes took end = tt
    all (Some xs) None bytes took end = absurd took
    all (Some xs) (Some ys) bytes took end = took ∙ ap (λ (l : List ℕ). bytes ++ l) end ∙ append-nil bytes

-- where more bytes were read than the limit allows, more than the limit were left
pub IsTooLong-more : (limit : ℕ) (first mid new : FilesSeen) (bytes buffer : List ℕ) (n : ℕ) → n ≤ length buffer →
    limit < length bytes + n → HasRead first mid bytes → Reads mid new buffer n → IsTooLong first.left limit
IsTooLong-more limit first mid new bytes buffer n fits beyond before more =
    long first.left new.left (bytes ++ take n buffer) (joined first mid new bytes buffer n before more)
    (omega (arith, length-append bytes (take n buffer), length-take-le n buffer fits))
  where
    long : (a b : Option (List ℕ)) (all : List ℕ) → Consumes a b all → limit < length all → IsTooLong a limit
    long None b all took beyond = tt
    long (Some xs) None all took beyond = absurd took
    long (Some xs) (Some ys) all took beyond = omega (arith, ap length took, length-append all ys)

-- bytes that were added make the list as much longer
pub length-extended : (bytes buffer extended : List ℕ) (n : ℕ) → extended ≡ bytes ++ take n buffer → n ≤ length buffer →
    length extended ≡ length bytes + n
length-extended bytes buffer extended n is fits =
    omega (arith, ap length is, length-append bytes (take n buffer), length-take-le n buffer fits)

-- one more read that gave something
pub HasRead-more : (first mid new : FilesSeen) (bytes buffer extended : List ℕ) (n : ℕ) → extended ≡ bytes ++ take n buffer → 0 < n →
    n ≤ length buffer → HasRead first mid bytes → Reads mid new buffer n → HasRead first new extended
HasRead-more first mid new bytes buffer extended n is some fits before more = record {
  times = suc before.times;
  few = omega (arith, before.few, ap length is, length-append bytes (take n buffer), length-take-le n buffer fits);
  left = subst (Consumes first.left new.left) (sym is) (joined first mid new bytes buffer n before more);
  is_open = more.is_open ∙ before.is_open;
  files = more.files ∙ before.files;
  opens = more.opens ∙ before.opens;
  reads = count_more before.times first.reads mid.reads new.reads before.reads more.reads;
  faults = more.faults ∙ before.faults;
}

-- the bytes so far, where another read failed
pub ReadsBytes-fails : (limit : ℕ) (first mid new : FilesSeen) (bytes : List ℕ) → length bytes ≤ limit → HasRead first mid bytes →
    FailsToRead mid new → ReadsBytes limit first new bytes
ReadsBytes-fails limit first mid new bytes fits before fails = record {
  times = suc before.times;
  few = omega (arith, before.few);
  limited = omega (arith, before.few);
  left = Consumes-kept first.left mid.left new.left bytes before.left fails.left;
  is_open = fails.is_open ∙ before.is_open;
  files = fails.files ∙ before.files;
  opens = fails.opens ∙ before.opens;
  reads = count_more before.times first.reads mid.reads new.reads before.reads fails.reads;
}

-- a read that failed ends the reading
pub ReadsOn-fails : (limit : ℕ) (first mid new : FilesSeen) (bytes : List ℕ) → length bytes ≤ limit → HasRead first mid bytes →
    FailsToRead mid new → ReadsOn limit first new
ReadsOn-fails limit first mid new bytes fits before fails = record {
  bytes = bytes;
  how = ReadsBytes-fails limit first mid new bytes fits before fails;
}

-- the reading ended at the end of the file
pub ReadsOn-end : (limit : ℕ) (first mid new : FilesSeen) (bytes buffer : List ℕ) (n : ℕ) → length bytes ≤ limit → HasRead first mid bytes →
    Reads mid new buffer n → n ≡ 0 → ReadsOn limit first new
ReadsOn-end limit first mid new bytes buffer n fits before more none = record {
  bytes = bytes;
  how = ReadsBytes-end limit first mid new bytes buffer n fits before more none;
}

-- the reading ended after one more read
pub ReadsOn-more : (limit : ℕ) (first mid new : FilesSeen) (bytes buffer : List ℕ) (n : ℕ) → length bytes ≤ limit →
    HasRead first mid bytes → Reads mid new buffer n → ReadsOn limit first new
ReadsOn-more limit first mid new bytes buffer n fits before more = record {
  bytes = bytes ++ take n buffer;
  how = ReadsBytes-more limit first mid new bytes buffer n fits before more;
}

-- the reading ended after one more read that stayed within the limit
pub ReadsWithin-more : (limit : ℕ) (first mid new : FilesSeen) (bytes buffer : List ℕ) (n : ℕ) → length bytes + n ≤ limit →
    n ≤ length buffer → HasRead first mid bytes → Reads mid new buffer n → ReadsWithin limit first new
ReadsWithin-more limit first mid new bytes buffer n within fits before more = record {
  bytes = bytes ++ take n buffer;
  fits = omega (arith, within, length-append bytes (take n buffer), length-take-le n buffer fits);
  how = ReadsBytes-more limit first mid new bytes buffer n (omega (arith, within)) before more;
}
