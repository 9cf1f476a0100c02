-- When words are read, and what they then ask for.
use Rattle.std.specs.Prelude.{◌≡◌, ℕ, ◌≤◌, ◌==◌, Bool, true, false, not, List, [], ◌∷◌, ◌++◌, length, slice_get, if◌then◌else◌, Some}
use Rattle.mas_top_words.specs.declared.table.Command.{Command}
use Rattle.mas_top_words.specs.declared.table.Setting.{Setting}
use Rattle.mas_top_words.specs.Table.{key, form, name_count, takes, same}
use Rattle.mas_top_words.specs.Asked.{Asked, asked_by, IsPermitted}

-- a text that is not empty and does not begin with `-` (45)
abbrev pub is_undashed : List ℕ → Bool
is_undashed [] = false
is_undashed (b ∷ bs) = not (b == 45)

-- a name, or an option with its text
pub data Part : Type 0 where
  name : List ℕ → Part
  option : Setting → List ℕ → Part

-- These words are these parts, in order. An option is `--x` and then its text, or the one word `--x=text` (61).
pub data AreParts : List (List ℕ) → List Part → Type 0 where
  none : AreParts [] []
  bare : (w : List ℕ) (ws : List (List ℕ)) (ps : List Part) → is_undashed w ≡ true → AreParts ws ps → AreParts (w ∷ ws) (name w ∷ ps)
  apart : (o : Setting) (v : List ℕ) (ws : List (List ℕ)) (ps : List Part) → is_undashed v ≡ true → AreParts ws ps
      → AreParts (key o ∷ v ∷ ws) (option o v ∷ ps)
  joined : (o : Setting) (x : ℕ) (v : List ℕ) (ws : List (List ℕ)) (ps : List Part) → AreParts ws ps
      → AreParts ((key o ++ 61 ∷ x ∷ v) ∷ ws) (option o (x ∷ v) ∷ ps)

-- the names among parts, in order
abbrev pub names_in : List Part → List (List ℕ)
names_in [] = []
names_in (name w ∷ ps) = w ∷ names_in ps
names_in (option o v ∷ ps) = names_in ps

-- the texts that parts give for an option
abbrev pub texts_in : List Part → Setting → List (List ℕ)
texts_in [] o = []
texts_in (name w ∷ ps) o = texts_in ps o
texts_in (option p v ∷ ps) o = if same p o then v ∷ texts_in ps o else texts_in ps o

-- how often an option may stand
abbrev pub most : Command → Setting → ℕ
most c o = if takes c o then 1 else 0

-- The words behind the command are plain: each of its names stands once, every option is the command's, and none stands twice.
pub record ArePlain (c : Command) (words : List (List ℕ)) (ps : List Part) : Type 0 where
  pub parts : AreParts words ps
  pub names : length (names_in ps) ≡ name_count c
  pub options : (o : Setting) → length (texts_in ps o) ≤ most c o

-- a command's word and plain words behind it, whose names and options ask for this
pub data AskFor : List (List ℕ) → Asked → Type 0 where
  ask : (c : Command) (ws : List (List ℕ)) (ps : List Part) (a : Asked) → ArePlain c ws ps
      → asked_by c (names_in ps) (λ o. slice_get (texts_in ps o) 0) ≡ Some a → AskFor ((form c).word ∷ ws) a

-- the words ask for this and for nothing else
pub record AskOnlyFor (words : List (List ℕ)) (a : Asked) : Type 0 where
  pub it : AskFor words a
  pub only : (b : Asked) → AskFor words b → b ≡ a

-- the words are not read
abbrev pub AskForNothing : List (List ℕ) → Type 0
AskForNothing words = (a : Asked) → AskFor words a → ⊥

-- the words ask for one thing, whose numbers are permitted
pub record AreRead (words : List (List ℕ)) : Type 0 where
  pub asked : Asked
  pub only : AskOnlyFor words asked
  pub permitted : IsPermitted asked
