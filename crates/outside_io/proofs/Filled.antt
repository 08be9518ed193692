-- A read into what is left of a buffer goes on from what was filled so far.
use Rattle.std.proofs.Common.{◌≡◌, ◌≤◌, ◌+◌, ℕ, List, ◌++◌, take, drop, ap, ◌∙◌, sym, arith, length}
use Rattle.std.proofs.lemmas.List.{drop-drop, take-append-le, take_all}
use Rattle.std.proofs.Common.{length-take-le, length-append}
use Rattle.std.proofs.Math.Seq.{take-add, take-append-add}

-- a front, and then a front of the part that was read after it
take-joined : (front part rest : List ℕ) (done count : ℕ) → length front ≡ done → count ≤ length part → take (done + count) (front ++ (part ++ rest)) ≡ front ++ take count part
take-joined front part rest done count long fits =
    ap (λ n. take (n + count) (front ++ (part ++ rest))) (sym long) ∙ take-append-add front (part ++ rest) count ∙ ap (λ t. front ++ t) (take-append-le count part rest fits)

pub filled-more : (bytes buf part rest : List ℕ) (start offset done count : ℕ) → done ≤ length buf → offset ≡ start + done → count ≤ length part → take done buf ≡ take done (drop start bytes) → take count part ≡ take count (drop offset bytes) → take (done + count) (take done buf ++ (part ++ rest)) ≡ take (done + count) (drop start bytes)
filled-more bytes buf part rest start offset done count within at fits filled read =
    take-joined (take done buf) part rest done count (length-take-le done buf within) fits
    ∙ ap (λ t. t ++ take count part) filled
    ∙ ap (λ t. take done (drop start bytes) ++ t) (read ∙ ap (λ n. take count (drop n bytes)) at ∙ ap (take count) (sym (drop-drop done start bytes)))
    ∙ sym (take-add done count (drop start bytes))

pub filled-within : (buf part rest : List ℕ) (done count : ℕ) → done ≤ length buf → count ≤ length part → done + count ≤ length (take done buf ++ (part ++ rest))
filled-within buf part rest done count within fits =
    omega (arith, length-append (take done buf) (part ++ rest), length-append part rest, length-take-le done buf within)

-- a buffer as long as all bytes, which was filled from offset 0
pub filled-whole : (bytes buf rest : List ℕ) (start long size : ℕ) → buf ≡ take long (drop start bytes) → start ≡ 0 → long ≡ size → size ≡ length bytes → take size (buf ++ rest) ≡ bytes
filled-whole bytes buf rest start long size is at_start all whole =
    let e : buf ≡ bytes = is ∙ ap (λ n. take long (drop n bytes)) at_start ∙ take_all long bytes (omega (arith, all, whole)) in
    ap (λ t. take size (t ++ rest)) e ∙ take-append-le size bytes rest (omega (arith, whole)) ∙ take_all size bytes (omega (arith, whole))
