-- What the lexer's public contract says beside the definitions of sl_base.
pub mod Faults
-- What its private contracts say: functions of the bytes, which the lemmas tie to those definitions. Nobody has to believe them.
pub mod Means
