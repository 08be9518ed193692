-- The script that plays the two files of a folder: one at half gain, mixed, and coded as A-law.
use Rattle.std.specs.Prelude.{ℕ, List, [], ◌∷◌, ◌++◌, codes}

-- a line, ended by a line feed
abbrev pub line : List ℕ → List ℕ
line words = words ++ 10 ∷ []

abbrev pub in_folder : List ℕ → List ℕ → List ℕ
in_folder folder name = folder ++ 47 ∷ name

abbrev pub first_name : List ℕ → List ℕ
first_name folder = in_folder folder (codes "a.wav")

abbrev pub second_name : List ℕ → List ℕ
second_name folder = in_folder folder (codes "b.wav")

abbrev pub script_name : List ℕ → List ℕ
script_name folder = in_folder folder (codes "mix.omx")

unfoldable pub script : List ℕ → List ℕ
script folder =
    line (codes "omx 1 play")
    ++ line (codes "source a " ++ first_name folder)
    ++ line (codes "source b " ++ second_name folder)
    ++ line (codes "gain g 2048")
    ++ line (codes "mixer m 2 4096 4096")
    ++ line (codes "alaw e")
    ++ line (codes "sink s " ++ in_folder folder (codes "out.wav"))
    ++ line (codes "link a.0 g.0 4 4096")
    ++ line (codes "link g.1 m.0 4 4096")
    ++ line (codes "link b.0 m.1 4 4096")
    ++ line (codes "link m.2 e.0 4 4096")
    ++ line (codes "link e.1 s.0 4 4096")
