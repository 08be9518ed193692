-- What the headers of a list of numbers carry, and how many frames that is.
use Rattle.std.proofs.Common.{◌≡◌, ◌≢◌, ℕ, ◌+◌, ◌*◌, ◌/◌, true, false, nat_eq, List, [], ◌∷◌, ◌++◌, length, map, Option, None, Some, refl, sym, ◌∙◌, ap, append_assoc, length-append, add-mul, arith}
use Rattle.std.proofs.lemmas.Bool.{eqb-false}
use Rattle.il_machine.specs.World.{HeaderRecord, Load}
use Rattle.il_machine.specs.Headers.{load_at}
use Rattle.machine_laws.proofs.Finding.{either}
use Rattle.play_model.specs.Network.{frames_in}
use Rattle.play_world_laws.specs.View.{filled, filled_of, is_in}
use Rattle.play_stream_laws.specs.Flowing.{content_of, contents_of}

pub contents_append : (hs : List HeaderRecord) (xs ys : List ℕ) → contents_of hs (xs ++ ys) ≡ contents_of hs xs ++ contents_of hs ys
contents_append hs [] ys = refl
contents_append hs (x ∷ xs) ys = ap (λ (l : List ℕ). content_of (load_at x hs) ++ l) (contents_append hs xs ys) ∙ sym (append_assoc (content_of (load_at x hs)) (contents_of hs xs) (contents_of hs ys))

-- headers that carry the same
pub contents_same : (hs ks : List HeaderRecord) (xs : List ℕ) → ((m : ℕ) → load_at m ks ≡ load_at m hs) → contents_of ks xs ≡ contents_of hs xs
contents_same hs ks [] h = refl
contents_same hs ks (x ∷ xs) h = let a = h x in let r = contents_same hs ks xs h in λ i. content_of (a i) ++ r i

-- all but one, which isn't in the list
pub contents_off : (hs ks : List HeaderRecord) (n : ℕ) (xs : List ℕ) → is_in n xs ≡ false → ((m : ℕ) → m ≢ n → load_at m ks ≡ load_at m hs) → contents_of ks xs ≡ contents_of hs xs
contents_off hs ks n [] e h = refl
contents_off hs ks n (x ∷ xs) e h = either (nat_eq n x)
    (λ t. let b : true ≡ false = rw t at e in absurd cc)
    (λ f.
    let a = h x (λ s. eqb-false n x f (sym s)) in
    let r = contents_off hs ks n xs (rw f at e) h in
    λ i. content_of (a i) ++ r i)

-- ---- frames

-- each has whole frames of so many bytes
abbrev pub AreWholeFrames : ℕ → List HeaderRecord → List ℕ → Type 0
AreWholeFrames unit hs [] = Unit {0}
AreWholeFrames unit hs (x ∷ xs) = (length (content_of (load_at x hs)) / unit * unit ≡ length (content_of (load_at x hs))) × AreWholeFrames unit hs xs

frames_of : (unit : ℕ) (o : Option Load) → length (content_of o) / unit * unit ≡ length (content_of o) → (filled_of unit o).frames * unit ≡ length (content_of o)
frames_of unit None h = omega arith
frames_of unit (Some load) h = h

pub frames_long : (unit : ℕ) (hs : List HeaderRecord) (xs : List ℕ) → AreWholeFrames unit hs xs → frames_in (map (filled unit hs) xs) * unit ≡ length (contents_of hs xs)
frames_long unit hs [] h = omega arith
frames_long unit hs (x ∷ xs) h =
    let a = frames_of unit (load_at x hs) h.0 in
    let r = frames_long unit hs xs h.1 in
    add-mul (filled unit hs x).frames (frames_in (map (filled unit hs) xs)) unit
    ∙ ((λ i. a i + r i) ∙ sym (length-append (content_of (load_at x hs)) (contents_of hs xs)))

pub map_append : {A B : Type 0} (f : A → B) (xs ys : List A) → map f (xs ++ ys) ≡ map f xs ++ map f ys
map_append f [] ys = refl
map_append f (x ∷ xs) ys = ap (λ l. f x ∷ l) (map_append f xs ys)
