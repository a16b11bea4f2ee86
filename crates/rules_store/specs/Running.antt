-- The running block (mode, live, action, step, birth) and its next ones.
use Rattle.std.specs.Prelude.{ℕ, ◌+◌}
use Rattle.rules_store.specs.declared.Running.{Running}

-- the modes: "mode (0 idle, 1 charts, 2 acts)"
abbrev pub idle : ℕ
idle = 0

abbrev pub charts : ℕ
charts = 1

abbrev pub acts : ℕ
acts = 2

-- "idle means words 1 to 7 zero"
abbrev pub rest : Running
rest = record { birth = 0; mode = idle; live = 0; action = 0; step = 0 }

-- "Basic: mode 1, live."
abbrev pub awake : ℕ → Running
awake birth = record { birth = birth; mode = charts; live = 1; action = 0; step = 0 }

-- "live ends, mode 2, step 0", at this action
abbrev pub entered : ℕ → Running → Running
entered action r = record { birth = r.birth; mode = acts; live = 0; action = action; step = 0 }

-- "one step"
abbrev pub stepped : Running → Running
stepped r = record { birth = r.birth; mode = r.mode; live = r.live; action = r.action; step = r.step + 1 }

-- "mode 1, live stays 0"
abbrev pub charting : Running → Running
charting r = record { birth = r.birth; mode = charts; live = r.live; action = r.action; step = r.step }
