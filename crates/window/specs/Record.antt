-- A record of the table: a parity packet in hand, or free (01, "Setting up a window").
use Rattle.window.specs.declared.Record.{Record}

-- a free record: zeros
abbrev pub blank : Record
blank = record { stream = 0; in_use = 0; snbase = 0; timestamp_recovery = 0; length_recovery = 0; payload_length = 0 }
