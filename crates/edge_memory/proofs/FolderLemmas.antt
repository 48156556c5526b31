-- What files in memory tell, place by place.
use Rattle.std.proofs.Common.{◌≡◌, ℕ, zero, suc, ◌+◌, ◌<◌, ◌≤◌, Bool, true, false, if◌then◌else◌, List, [], ◌∷◌, ◌++◌, length, take, drop, min, get_or, Option, Some, None, is_some, Vec, refl, ap, sym, ◌∙◌, subst, cond, arith, take-append-drop, drop-drop}
use Rattle.std.proofs.Math.Seq.{take-append_seam}
use Rattle.std.proofs.lemmas.List.{length-drop, length-take, nil_from_length}
use Rattle.std.specs.Io.KnownBytes.{Consumes, IsAtEnd}
use Rattle.std.specs.declared.alloc.Global.{Global}
use Rattle.std.specs.Str.{bytes_eq}
use Rattle.edge_io.specs.Faults.{next_count}
use Rattle.edge_io.specs.Files.{content_of, Reads}
use Rattle.edge_memory.specs.MemoryFiles.{Folder, listed, content_at, seen_of}
use Rattle.edge_memory.specs.MemoryFilesView.{folder_of}
use Rattle.edge_memory.specs.declared.memory_files.MemFiles.TheInside.{Inside}

-- the content of the file at a place is its own
pub content_at-is : (files : List (List ℕ × Vec ℕ Global)) (place : ℕ) (d : List ℕ × Vec ℕ Global) → place < length files →
    (get_or files place d).1.items ≡ content_at (listed files) place
content_at-is [] place d within = absurd (omega arith)
content_at-is (x ∷ xs) zero d within = refl
content_at-is (x ∷ xs) (suc place) d within = content_at-is xs place d (omega arith)

-- beyond the last file there is no content
pub content_at-beyond : (files : List (List ℕ × Vec ℕ Global)) (place : ℕ) → length files ≤ place → [] ≡ content_at (listed files) place
content_at-beyond [] place beyond = refl
content_at-beyond (x ∷ xs) zero beyond = absurd (omega arith)
content_at-beyond (x ∷ xs) (suc place) beyond = content_at-beyond xs place (omega arith)

-- the files from a place on begin with the file there, which has the name
pub content_of-here : (files : List (List ℕ × Vec ℕ Global)) (place : ℕ) (d : List ℕ × Vec ℕ Global) (name : List ℕ) →
    place < length files → bytes_eq (get_or files place d).0 name ≡ true →
    Some (content_at (listed files) place) ≡ content_of (listed (drop place files)) name
content_of-here [] place d name within test = absurd (omega arith)
content_of-here (x ∷ xs) zero d name within test = ap (λ (b : Bool). cond b (Some x.1.items) (content_of (listed xs) name)) (sym test)
content_of-here (x ∷ xs) (suc place) d name within test = content_of-here xs place d name (omega arith) test

-- what is left of a content from a place on, where a file is open
abbrev pub rest_of : Bool → List ℕ → ℕ → Option (List ℕ)
rest_of is_open whole at = if is_open then Some (drop at whole) else None

-- what is left of a file in memory is what was, without the bytes that a read gave
pub Consumes-left : (is_open : Bool) (whole : List ℕ) (at n : ℕ) (bytes : List ℕ) → bytes ≡ take n (drop at whole) →
    Consumes (rest_of is_open whole at) (rest_of is_open whole (at + n)) bytes
Consumes-left false whole at n bytes given = tt
Consumes-left true whole at n bytes given =
    sym (take-append-drop n (drop at whole)) ∙ ap (λ (xs : List ℕ). xs ++ drop n (drop at whole)) (sym given)
    ∙ ap (λ (xs : List ℕ). bytes ++ xs) (drop-drop n at whole)

-- where no byte could be given, none is left
pub IsAtEnd-left : (is_open : Bool) (whole : List ℕ) (at : ℕ) → length (drop at whole) ≡ 0 → IsAtEnd (rest_of is_open whole at)
IsAtEnd-left false whole at none = tt
IsAtEnd-left true whole at none = nil_from_length (drop at whole) none

-- the first bytes of a buffer that begins with these are these
take_front : (front rest : List ℕ) (n : ℕ) → n ≡ length front → take n (front ++ rest) ≡ front
take_front front rest n is = ap (λ m. take m (front ++ rest)) is ∙ take-append_seam front rest

-- a read of files in memory
pub Reads-memory : (s : Inside) (self : Folder) (content : List ℕ) (n calls reads : ℕ) (buf front : List ℕ) → folder_of s ≡ self
    → content ≡ content_at (listed s.files.items) s.place → 1 ≤ s.piece → 0 < length buf
    → n ≡ min (min (length (drop s.at content)) (length buf)) s.piece → front ≡ take n (drop s.at content) → reads ≡ next_count s.reads
    → Reads (seen_of self) (seen_of (folder_of (record s { at = s.at + n; calls = calls; reads = reads }))) (front ++ drop n buf) n
Reads-memory s self content n calls reads buf front is here piece room given is_front next =
    subst (λ (f : Folder). Reads (seen_of f) (seen_of after) (front ++ drop n buf) n) is
    (record {
      left = subst (λ (w : List ℕ). Consumes (rest_of s.opened w s.at) (rest_of s.opened w (s.at + n)) (take n (front ++ drop n buf))) here
          (Consumes-left s.opened content s.at n (take n (front ++ drop n buf)) (same ∙ is_front));
      end = λ none. subst (λ (w : List ℕ). IsAtEnd (rest_of s.opened w (s.at + n))) here
          (IsAtEnd-left s.opened content (s.at + n) (ended none));
      is_open = open_still s.opened;
      files = refl;
      opens = refl;
      reads = next;
      faults = refl;
    })
  where
    after : Folder
    after = folder_of (record s { at = s.at + n; calls = calls; reads = reads })

    same : take n (front ++ drop n buf) ≡ front
    same = take_front front (drop n buf) n (omega (arith, ap length is_front, length-take n (drop s.at content)))

    ended : n ≡ 0 → length (drop (s.at + n) content) ≡ 0
    ended none = omega (arith, length-drop (s.at + n) content, length-drop s.at content)

    open_still : (b : Bool) → is_some (rest_of b (content_at (listed s.files.items) s.place) (s.at + n)) ≡
        is_some (rest_of b (content_at (listed s.files.items) s.place) s.at)
    open_still true = refl
    open_still false = refl
