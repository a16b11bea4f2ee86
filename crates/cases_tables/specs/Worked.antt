-- Tables written frame by frame: document 01's worked table, a small one with each kind in it, and one with hardly anything in it.
use Rattle.std.specs.Prelude.{List, [], ◌∷◌, ◌++◌, ℕ, ◌/◌, ◌%◌}

-- kind, flag and the fields a to e, as 12 bytes
abbrev pub frame : ℕ → ℕ → ℕ → ℕ → ℕ → ℕ → ℕ → List ℕ
frame k g a b c d e =
    k ∷ g ∷ a / 256 ∷ a % 256 ∷ b / 256 ∷ b % 256 ∷ c / 256 ∷ c % 256 ∷ d / 256 ∷ d % 256 ∷ e / 256 ∷ e % 256 ∷ []

-- the bytes of frames one after another
abbrev pub bytes : List (List ℕ) → List ℕ
bytes [] = []
bytes (x ∷ xs) = x ++ bytes xs

-- "A source, a block that doubles, a sink"
unfoldable pub worked : List (List ℕ)
worked =
    frame 1 3 1 0 0 0 0 ∷
    frame 1 0 0 0 0 0 0 ∷
    frame 1 4 2 0 0 0 0 ∷
    frame 2 0 1 0 0 0 0 ∷
    frame 2 0 2 0 0 0 0 ∷
    frame 3 0 0 0 0 0 0 ∷
    frame 3 0 1 0 0 0 0 ∷
    frame 4 1 0 0 0 0 0 ∷
    frame 4 0 1 0 0 0 0 ∷
    frame 4 1 1 0 0 0 0 ∷
    frame 4 0 2 0 0 0 0 ∷
    frame 5 0 0 1 0 0 0 ∷
    frame 5 0 1 3 0 0 0 ∷
    frame 5 1 0 0 0 0 0 ∷
    frame 5 1 1 2 0 0 0 ∷
    frame 6 0 1 0 0 0 0 ∷
    frame 6 0 1 0 0 0 0 ∷
    frame 7 0 0 1 0 0 0 ∷
    frame 7 0 1 0 65535 0 0 ∷
    frame 8 0 1 0 1 1 0 ∷
    frame 9 1 2 1 1 0 0 ∷
    frame 10 0 0 0 0 0 0 ∷
    frame 10 0 1 1 0 0 0 ∷
    frame 11 0 0 1 0 0 0 ∷
    frame 11 0 2 3 0 0 0 ∷ []

-- one basic element, connected to itself; the numbers are those of the frames
unfoldable pub small : List (List ℕ)
small =
    -- 0: element 0
    frame 1 0 0 0 0 0 0 ∷
    -- 1, 2: its events
    frame 2 0 0 0 0 0 0 ∷
    frame 3 0 0 0 0 0 0 ∷
    -- 3, 4: its variables, an input and an output
    frame 4 0 0 0 0 0 0 ∷
    frame 4 1 0 0 0 0 0 ∷
    -- 5: the event input with the input
    frame 5 0 0 0 0 0 0 ∷
    -- 6, 7: its state, and a transition where input and output are equal
    frame 6 0 0 0 0 0 0 ∷
    frame 7 1 0 0 0 0 1 ∷
    -- 8, 9: an action of one step, which adds the input to the output
    frame 8 0 0 0 1 0 0 ∷
    frame 9 1 1 0 1 0 0 ∷
    -- 10, 11: the connections
    frame 10 0 0 0 0 0 0 ∷
    frame 11 0 1 0 0 0 0 ∷ []

-- one basic element with one state: no event, no variable, no action
unfoldable pub bare : List (List ℕ)
bare = frame 1 0 0 0 0 0 0 ∷ frame 6 0 0 0 0 0 0 ∷ []

-- two basic elements with the same parts each, so that an id can be of the other one; the numbers are those of the frames
unfoldable pub pair : List (List ℕ)
pair =
    -- 0, 1: the elements
    frame 1 0 0 0 0 0 0 ∷
    frame 1 0 1 1 0 0 0 ∷
    -- 2, 3: event inputs; 4, 5: event outputs
    frame 2 0 0 0 0 0 0 ∷
    frame 2 0 1 0 0 0 0 ∷
    frame 3 0 0 0 0 0 0 ∷
    frame 3 0 1 0 0 0 0 ∷
    -- 6, 7: an input and an output of the first; 8, 9: of the second
    frame 4 0 0 0 0 0 0 ∷
    frame 4 1 0 0 0 0 0 ∷
    frame 4 0 1 0 0 0 0 ∷
    frame 4 1 1 0 0 0 0 ∷
    -- 10, 11: the first's event input with its input, its event output with its output
    frame 5 0 0 0 0 0 0 ∷
    frame 5 1 0 1 0 0 0 ∷
    -- 12, 13: a state each
    frame 6 0 0 0 0 0 0 ∷
    frame 6 0 1 0 0 0 0 ∷
    -- 14: a transition of the first, with a guard
    frame 7 1 0 0 0 0 1 ∷
    -- 15, 16: an action of one step, which adds the input to the output and fires
    frame 8 0 0 0 1 0 0 ∷
    frame 9 1 1 0 1 0 0 ∷
    -- 17, 18: from the first to the second
    frame 10 0 0 1 0 0 0 ∷
    frame 11 0 1 2 0 0 0 ∷ []
