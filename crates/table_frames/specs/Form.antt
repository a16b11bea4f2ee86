-- A kind's form as the code holds it.
use Rattle.rules_tables.specs.Form.{Form}
use Rattle.table_frames.specs.declared.form.Form.{Form as InBytes}

abbrev pub in_bytes : Form → InBytes
in_bytes x = record { flags = x.flags; fields = x.fields; most = x.most }
