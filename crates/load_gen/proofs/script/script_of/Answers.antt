use Rattle.std.proofs.Common.{◌≡◌, ◌∙◌, ◌++◌, ◌∷◌, ℕ, List, [], codes}
use Rattle.std.proofs.lemmas.List.{append_assoc}
use Rattle.std.proofs.lemmas.Slice.{pushed}
use Rattle.load_gen.specs.Script.{script}
use Rattle.load_gen.proofs.script.script_of.Goals as goal

-- lines that are written in pieces which are parted at the folder
in_pieces : (f nl w1 s1 n1 s2 n2 w4 w5 w6 s7 n7 w8 w9 w10 w11 w12 : List ℕ) →
    (w1 ++ nl ++ s1) ++ f ++ (n1 ++ nl ++ s2) ++ f ++ (n2 ++ nl ++ w4 ++ nl ++ w5 ++ nl ++ w6 ++ nl ++ s7) ++ f ++ (n7 ++ nl ++ w8 ++ nl ++ w9 ++ nl) ++ (w10 ++ nl ++ w11 ++ nl ++ w12 ++ nl)
    ≡ (w1 ++ nl) ++ ((s1 ++ (f ++ n1)) ++ nl) ++ ((s2 ++ (f ++ n2)) ++ nl) ++ (w4 ++ nl) ++ (w5 ++ nl) ++ (w6 ++ nl) ++ ((s7 ++ (f ++ n7)) ++ nl)
    ++ (w8 ++ nl) ++ (w9 ++ nl) ++ (w10 ++ nl) ++ (w11 ++ nl) ++ (w12 ++ nl)
in_pieces f nl w1 s1 n1 s2 n2 w4 w5 w6 s7 n7 w8 w9 w10 w11 w12 = simp append_assoc

script_in_pieces : (f : List ℕ) → (codes "omx 1 play" ++ 10 ∷ codes "source a ") ++ f
    ++ (codes "/a.wav" ++ 10 ∷ codes "source b ") ++ f
    ++ (codes "/b.wav" ++ 10 ∷ (codes "gain g 2048" ++ 10 ∷ (codes "mixer m 2 4096 4096" ++ 10 ∷ (codes "alaw e" ++ 10 ∷ codes "sink s ")))) ++ f
    ++ (codes "/out.wav" ++ 10 ∷ (codes "link a.0 g.0 4 4096" ++ 10 ∷ (codes "link g.1 m.0 4 4096" ++ 10 ∷ [])))
    ++ (codes "link b.0 m.1 4 4096" ++ 10 ∷ (codes "link m.2 e.0 4 4096" ++ 10 ∷ (codes "link e.1 s.0 4 4096" ++ 10 ∷ [])))
    ≡ script f
unfolding script
script_in_pieces f =
    in_pieces f (10 ∷ []) (codes "omx 1 play") (codes "source a ") (codes "/a.wav") (codes "source b ") (codes "/b.wav")
    (codes "gain g 2048") (codes "mixer m 2 4096 4096") (codes "alaw e") (codes "sink s ") (codes "/out.wav")
    (codes "link a.0 g.0 4 4096") (codes "link g.1 m.0 4 4096") (codes "link b.0 m.1 4 4096") (codes "link m.2 e.0 4 4096") (codes "link e.1 s.0 4 4096")

pub returns : goal.returns
returns c =
    let one = pushed _ c.in_ok-text.ensures.ok c.in_ok-push_str.was c.push_str.ensures.bytes in
    let two = pushed _ one c.in_ok-push_str-2.was c.push_str-2.ensures.bytes in
    let three = pushed _ two c.in_ok-push_str-3.was c.push_str-3.ensures.bytes in
    let four = pushed _ three c.in_ok-push_str-4.was c.push_str-4.ensures.bytes in
    let five = pushed _ four c.in_ok-push_str-5.was c.push_str-5.ensures.bytes in
    let six = pushed _ five c.in_ok-push_str-6.was c.push_str-6.ensures.bytes in
    let seven = pushed _ six c.in_ok-push_str-7.was c.push_str-7.ensures.bytes in
    seven ∙ script_in_pieces c.args.folder.now
