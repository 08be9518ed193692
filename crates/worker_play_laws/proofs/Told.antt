-- What each file told when it came stays along a run in which no file comes.
use Rattle.std.proofs.Common.{◌≡◌, ℕ, nat_eq, true, false, All, List, [], ◌∷◌, find, map, Some, refl, sym, ◌∙◌, ap}
use Rattle.il_machine.specs.Acts.{Act, Reply}
use Rattle.il_machine.specs.Run.{Run}
use Rattle.il_machine.specs.Sound.{Sound}
use Rattle.il_machine.specs.World.{Stream, World, is_stream_of}
use Rattle.machine_laws.proofs.Finding.{either}
use Rattle.play_run.specs.Playing.{ToldAlike}
use Rattle.worker_play_laws.specs.Files.{is_steady}
use Rattle.worker_play_laws.proofs.Posts.{Label, label_of, run_posts}

found_alike : (ss ts : List Stream) → map label_of ts ≡ map label_of ss → (number : ℕ) (t : Stream) → find (is_stream_of number) ts ≡ Some t → (s : Stream) × (find (is_stream_of number) ss ≡ Some s) × (t.known ≡ s.known)
found_alike ss [] e number t q = absurd cc
found_alike [] (x ∷ ts) e number t q = absurd cc
found_alike (s ∷ ss) (x ∷ ts) e number t q =
    let head : label_of x ≡ label_of s = cc in
    let tail : map label_of ts ≡ map label_of ss = cc in
    let test : is_stream_of number s ≡ is_stream_of number x = ap (λ (l : Label). nat_eq l.component number) (sym head) in
    either (is_stream_of number x)
    (λ y.
    let z : Some x ≡ Some t = rw y at q in
    let is : x ≡ t = cc in
    let here : is_stream_of number s ≡ true = test ∙ y in
    (s, rw here refl, ap (λ (u : Stream). u.known) (sym is) ∙ ap (λ (l : Label). l.known) head))
    (λ n.
    let r = found_alike ss ts tail number t (rw n at q) in
    let else : is_stream_of number s ≡ false = test ∙ n in
    (r.0, rw else r.1, r.2))

pub run_told : (w v : World) (steps : List (Act × Reply)) → Sound w → All (λ (step : Act × Reply). is_steady step.0 ≡ true) steps → Run w steps v → ToldAlike w v
run_told w v steps S A R = λ number t q. (let K = run_posts w v steps S A R in found_alike w.streams v.streams K.labels number t q)
