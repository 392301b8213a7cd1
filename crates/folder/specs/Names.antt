-- The names of a lab's folder and its files.
use Rattle.std.specs.Prelude.{ℕ, List, ◌∷◌, ◌++◌, codes}
use Rattle.plant.specs.declared.step.Side.{Side}
use Rattle.plant.specs.declared.step.Side.TheVariants.{A, B}

pub record Names : Type 0 where
  pub folder : List ℕ
  -- the folder that the folder lies in
  pub parent : List ℕ
  -- the sides of the journal
  pub a : List ℕ
  pub b : List ℕ
  pub tables : List ℕ
  -- where the tables are written, before they take the place of the old ones
  pub beside : List ℕ
  -- a durable text of the tables, while a newer one isn't
  pub old : List ℕ

-- a name after the folder's and a `/`
abbrev pub inside : List ℕ → List ℕ → List ℕ
inside folder name = folder ++ 47 ∷ name

-- THE FILES OF A FOLDER
abbrev pub names_in : List ℕ → Names
names_in folder = record {
  folder = folder;
  parent = inside folder (codes "..");
  a = inside folder (codes "journal.a");
  b = inside folder (codes "journal.b");
  tables = inside folder (codes "tables");
  beside = inside folder (codes "tables.new");
  old = inside folder (codes "tables.old");
}

-- the file of a side
abbrev pub name_of_side : Side → Names → List ℕ
name_of_side A names = names.a
name_of_side B names = names.b
