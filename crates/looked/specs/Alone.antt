-- DEFINITIONS: a value for which no variable was looked at.
-- Its set of variables is the empty one.
use Rattle.looked.specs.declared.Looked.{Looked}

abbrev pub alone : {T : Type 0} → T → Looked T
alone value = record { value = value; looked = 0 }
