-- What a component of a play tells after a step: the end of a sink's stream, and nothing else; and its stream and its inputs then.
use Rattle.std.proofs.Common.{◌≡◌, ◌≢◌, ℕ, zero, suc, Bool, true, false, nat_eq, if◌then◌else◌, List, [], ◌∷◌, find, map, slice_get, Some, refl, sym, ◌∙◌, ap, eqb-true, ne_eqb}
use Rattle.std.specs.List.{list_any}
use Rattle.il_machine.specs.World.{Stream, World, is_stream_of, stream_of}
use Rattle.machine_laws.proofs.Finding.{either}

-- ---- streams

find_gone : (k : ℕ) (change : Stream → Stream) → ((z : Stream) → (change z).component ≡ z.component) → (ss : List Stream) (s : Stream) → find (is_stream_of k) ss ≡ Some s
    → find (is_stream_of k) (map (λ z. if is_stream_of k z then change z else z) ss) ≡ Some (change s)
find_gone k change keeps [] s h = absurd cc
find_gone k change keeps (z ∷ ss) s h = either (is_stream_of k z)
    (λ t.
    let f : Some z ≡ Some s = rw t at h in
    let is : z ≡ s = cc in
    let u : is_stream_of k (change z) ≡ true = ap (λ (q : ℕ). nat_eq q k) (keeps z) ∙ t in
    rw t (rw u (ap (λ (q : Stream). Some (change q)) is)))
    (λ t. rw t (rw t (find_gone k change keeps ss s (rw t at h))))

find_else : (k j : ℕ) (change : Stream → Stream) → ((z : Stream) → (change z).component ≡ z.component) → j ≢ k → (ss : List Stream) → find (is_stream_of j) (map (λ z. if is_stream_of k z then change z else z) ss) ≡ find (is_stream_of j) ss
find_else k j change keeps d [] = refl
find_else k j change keeps d (z ∷ ss) =
    let i = find_else k j change keeps d ss in
    either (is_stream_of k z)
    (λ t.
    let n : z.component ≡ k = eqb-true _ _ t in
    let u : is_stream_of j (change z) ≡ false = ap (λ (q : ℕ). nat_eq q j) (keeps z ∙ n) ∙ ne_eqb k j (λ q. d (sym q)) in
    let v : is_stream_of j z ≡ false = ap (λ (q : ℕ). nat_eq q j) n ∙ ne_eqb k j (λ q. d (sym q)) in
    rw t (rw (u, v) i))
    (λ t. rw t (either (is_stream_of j z) (λ u. rw u refl) (λ u. rw u i)))

pub stream_gone : (w v : World) (k : ℕ) (change : Stream → Stream) (s : Stream) → ((z : Stream) → (change z).component ≡ z.component) → v.streams ≡ map (λ z. if is_stream_of k z then change z else z) w.streams → stream_of k w ≡ Some s → stream_of k v ≡ Some (change s)
stream_gone w v k change s keeps h f = ap (find (is_stream_of k)) h ∙ find_gone k change keeps w.streams s f

pub stream_else : (w v : World) (k j : ℕ) (change : Stream → Stream) → ((z : Stream) → (change z).component ≡ z.component) → v.streams ≡ map (λ z. if is_stream_of k z then change z else z) w.streams → j ≢ k → stream_of j v ≡ stream_of j w
stream_else w v k j change keeps h d = ap (find (is_stream_of j)) h ∙ find_else k j change keeps d w.streams

-- ---- tests of a list

pub any_there : {X : Type 0} (test : X → Bool) (xs : List X) (i : ℕ) (y : X) → slice_get xs i ≡ Some y → test y ≡ true → list_any test xs ≡ true
any_there test [] i y e t = absurd cc
any_there test (z ∷ xs) zero y e t = let s : z ≡ y = cc in let u : test z ≡ true = ap test s ∙ t in rw u refl
any_there test (z ∷ xs) (suc i) y e t = let r = any_there test xs i y e t in either (test z) (λ u. rw u refl) (λ u. rw u r)
