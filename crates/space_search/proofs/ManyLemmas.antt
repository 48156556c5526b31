-- Lists in a list, as contracts see them, where one is read, put behind or written.
use Rattle.std.proofs.Common.{◌≡◌, ℕ, ◌<◌, List, [], ◌∷◌, ◌++◌, length, set, get_or, Some, ap, arith, sym, ◌∙◌, Vec}
use Rattle.std.proofs.lemmas.List.{get_or-map, length-map, map-append, map-set}
use Rattle.std.proofs.lemmas.Option.{slice_get-get_or}
use Rattle.std.specs.List.{slice_get}
use Rattle.std.specs.declared.alloc.Global.{Global}
use Rattle.item_list.specs.Pages.{numbers_of}

-- the lists of a list of lists that one was put behind
pub many-pushed :
    {X : Type 0} (old new : List (Vec X Global)) (last : Vec X Global) → new ≡ old ++ last ∷ [] →
    numbers_of new ≡ numbers_of old ++ last.items ∷ []
many-pushed {X} old new last is =
    ap numbers_of is ∙ map-append (λ (v : Vec X Global). v.items) old (last ∷ [])

-- the list at a place
pub many-read :
    {X : Type 0} (lists : List (Vec X Global)) (place : ℕ) (v : Vec X Global) → place < length lists → v ≡ get_or lists place v →
    get_or (numbers_of lists) place [] ≡ v.items
many-read {X} lists place v within read =
    get_or-map (λ (p : Vec X Global). p.items) lists place v [] within ∙ ap (λ (p : Vec X Global). p.items) (sym read)

-- another list is put there
pub many-set :
    {X : Type 0} (old new : List (Vec X Global)) (place : ℕ) (v : Vec X Global) → new ≡ set old place v →
    numbers_of new ≡ set (numbers_of old) place v.items
many-set {X} old new place v is = ap numbers_of is ∙ map-set (λ (p : Vec X Global). p.items) old place v

-- a place of one of them is one of the lists
pub many-within : {X : Type 0} (lists : List (Vec X Global)) (place : ℕ) → place < length (numbers_of lists) → place < length lists
many-within {X} lists place within = omega (arith, within, length-map lists (λ (p : Vec X Global). p.items))

-- the next place is their number
pub place-next :
    {X : Type 0} (lists : List (Vec X Global)) (place count : ℕ) → place ≡ count → count ≡ length lists →
    place ≡ length (numbers_of lists)
place-next {X} lists place count is counted = is ∙ counted ∙ sym (length-map lists (λ (p : Vec X Global). p.items))

-- the list at a place is there
pub many-there :
    {X : Type 0} (lists : List (Vec X Global)) (place : ℕ) (v : Vec X Global) → place < length lists → v ≡ get_or lists place v →
    slice_get (numbers_of lists) place ≡ Some v.items
many-there {X} lists place v within read =
    slice_get-get_or (numbers_of lists) place [] (omega (arith, within, length-map lists (λ (p : Vec X Global). p.items)))
    ∙ ap Some (many-read lists place v within read)
