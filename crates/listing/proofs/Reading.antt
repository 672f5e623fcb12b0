-- What a reader gave in several reads, one behind the other.
use Rattle.std.proofs.Common.{◌≡◌, ℕ, ◌+◌, ◌≤◌, List, ◌++◌, None, Some, IfSome, sym, ap, ◌∙◌, arith, append-nil, length, length-drop, take, drop, le_refl, drop_at, length-take-le, take_all}
use Rattle.std.proofs.lemmas.List.{take-append-le}
use Rattle.std.proofs.lemmas.Slice.{take-put_mid_below}
use Rattle.std.proofs.Math.Seq.{take-add}
use Rattle.std.proofs.KnownBytes.{Consumes-trans}
use Rattle.std.specs.Io.KnownBytes.{Consumes, IsAtEnd}
use Rattle.std.specs.declared.option.Option.{Option}
use borrow.Rule.Slice.PartMut.{put_mid, post_of, same_len_mid}

-- the front of a buffer behind a read into the rest of it
pub front_more :
    (a k more : ℕ) (xs ys : List ℕ) → a ≤ length xs → more ≤ length ys → take (a + more) (put_mid a k xs ys) ≡ take a xs ++ take more ys
front_more a k more xs ys within fits =
    let front : take a (put_mid a k xs ys) ≡ take a xs = take-put_mid_below a k xs ys a (le_refl a) within in
    let behind : drop a (put_mid a k xs ys) ≡ ys ++ post_of a k xs = drop_at (take a xs) (ys ++ post_of a k xs) a (length-take-le a xs within) in
    take-add a more (put_mid a k xs ys) ∙ rw (front, behind, take-append-le more ys (post_of a k xs) fits)

-- the reader is at its end, or gave as many bytes as are wanted: they are the first of its bytes
pub consumed_end : (old new : Option (List ℕ)) (bs : List ℕ) (most : ℕ) → Consumes old new bs → IsAtEnd new → length bs ≤ most → IfSome old (λ xs. bs ≡ take most xs)
consumed_end None new bs most c e h = tt
consumed_end (Some xs) None bs most c e h = absurd c
consumed_end (Some xs) (Some ys) bs most c e h = sym (ap (take most) (c ∙ rw e (append-nil bs)) ∙ take_all most bs h)

pub consumed_most : (old new : Option (List ℕ)) (bs : List ℕ) (most : ℕ) → Consumes old new bs → length bs ≡ most → IfSome old (λ xs. bs ≡ take most xs)
consumed_most None new bs most c h = tt
consumed_most (Some xs) None bs most c h = absurd c
consumed_most (Some xs) (Some ys) bs most c h = sym (ap (take most) c ∙ take-append-le most bs ys (omega arith) ∙ take_all most bs (omega arith))

pub consumed_more :
    (old mid new : Option (List ℕ)) (a k more to : ℕ) (xs ys : List ℕ) → a ≤ length xs → more ≤ length ys → to ≡ a + more
    → Consumes old mid (take a xs) → Consumes mid new (take more ys) → Consumes old new (take to (put_mid a k xs ys))
consumed_more old mid new a k more to xs ys within fits e c d =
    rw (e, front_more a k more xs ys within fits) (Consumes-trans old mid new (take a xs) (take more ys) c d)

pub same_cells : (a k : ℕ) (xs ys : List ℕ) → a + k ≡ length xs → length ys ≡ k → length (put_mid a k xs ys) ≡ length xs
same_cells a k xs ys e f = same_len_mid a k xs ys (f ∙ sym (length-take-le k (drop a xs) (omega (arith, length-drop a xs))))
