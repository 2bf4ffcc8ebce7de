pub mod DeclaredChannels
