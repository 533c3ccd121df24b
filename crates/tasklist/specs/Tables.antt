-- What the tables of the code stand for.
use Rattle.std.specs.Prelude.{ℕ, min, ◌≡◌, List, [], ◌∷◌, take, drop, get_or, replicate}
use Rattle.tasklist.specs.declared.Tables.{Tables}
use Rattle.tasklist.specs.TaskList.{TaskList, task_count, blank_instruction}
use Rattle.tasklist.specs.Accepted.{blank_line}

-- Rows of a table whose rows are w places apart: of each row as many as its size says, at most w
unfoldable pub rows : {A : Type 0} → ℕ → List ℕ → List A → List (List A)
rows w [] xs = []
rows w (n ∷ ns) xs = take (min n w) xs ∷ rows w ns (drop w xs)

-- the list that tables stand for, whatever they hold: at most 32 footprints of 8 lines, 32 bodies of 32 instructions
unfoldable pub list_of : Tables → TaskList
unfolding rows
list_of t =
    record {
      locations = t.locations;
      footprints = rows 8 (take t.footprints t.widths) t.lines;
      bodies = rows 32 (take t.bodies t.sizes) t.cells;
    }

-- the tables that reading begins with
unfoldable pub blank_tables : Tables
blank_tables =
    record {
      locations = 0;
      footprints = 0;
      bodies = 0;
      widths = replicate 32 0;
      lines = replicate 256 blank_line;
      sizes = replicate 32 0;
      cells = replicate 1024 blank_instruction;
      counts = replicate 32 1;
    }

-- a count as the tables keep it: 129 stands for all above 128
abbrev pub capped : ℕ → ℕ
capped n = min 129 n

-- tables that hold a list
pub record Holds (t : Tables) (l : TaskList) : Type 0 where
  pub list : list_of t ≡ l
  pub counts : (s : ℕ) → get_or t.counts s 1 ≡ capped (task_count l s)
